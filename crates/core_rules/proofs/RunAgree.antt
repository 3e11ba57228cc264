-- A node's executions work on what its commands are run in.
use Rattle.std.proofs.Common.{◌≡◌, ℕ, zero, suc, List, [], ◌∷◌, Some, refl, ap, sym, ◌∙◌}
use Rattle.std.specs.Prelude.{⊤, slice_get}
use Rattle.std.specs.Option.{option_map}
use Rattle.doc_nodes.specs.declared.node.Entry.{Entry}
use Rattle.doc_nodes.specs.declared.node.Node.{Node}
use Rattle.exec_rules.specs.declared.key.Last.TheVariants.{Made}
use Rattle.exec_rules.specs.declared.row.Row.{Row}
use Rattle.exec_rules.specs.declared.home.Input.{Input}
use Rattle.exec_rules.specs.declared.home.Input.TheVariants as input
use Rattle.exec_rules.specs.declared.home.Home.{Home}
use Rattle.exec_rules.specs.Homes.{home}
use Rattle.exec_rules.specs.Kept.{BlobList}
use Rattle.exec_rules.specs.Keys.{last_of}
use Rattle.language.specs.Lang.{Lang}
use Rattle.core_rules.specs.Numbered.{numbered}
use Rattle.core_rules.specs.Settings.{Setting, state_behind, taken_up_state, setting}
use Rattle.core_rules.specs.Scratch.{set_in, run_from, state_after}
use Rattle.core_rules.proofs.Tables.{AreOlder}
use Rattle.core_rules.proofs.HomedRows.{evals, EvalsHomed}
use Rattle.core_rules.proofs.SettingsBy.{behind, setting_at}

module _ {S : Type 0} (l : Lang S) (homes : List Home) (older : AreOlder homes) (node : Node) (blobs : BlobList) where
  -- the first of these are what the evaluations work on
  abbrev pub Agree : List ℕ → List (Setting S) → Type 0
  Agree [] ss = ⊤
  Agree (v ∷ vs) [] = ⊥
  Agree (v ∷ vs) (s ∷ ss) = (setting l homes v ≡ Some s) × Agree vs ss

  set_at : (v : ℕ) (e : Entry) (i : Input) (state : S) → numbered homes v ≡ Some (home node blobs e i)
      → taken_up_state l (behind l homes) i ≡ Some state
      → setting l homes v ≡ Some (set_in node blobs e state)
  set_at v e i state at up =
      setting_at l homes v (home node blobs e i) older at
      ∙ ap (option_map (λ s. record { source = (home node blobs e i).source; blob = (home node blobs e i).blob; state = s })) up

  pub evals_agree : (es : List Entry) (vs : List ℕ) (i : Input) (state : S) → EvalsHomed (numbered homes) node blobs es vs i
      → taken_up_state l (behind l homes) i ≡ Some state
      → Agree vs (run_from l node blobs es state)
  evals_agree es [] i state all up = tt
  evals_agree [] (v ∷ vs) i state all up = absurd all
  evals_agree (e ∷ es) (v ∷ vs) i state all up =
      let here = set_at v e i state all.0 up in (
        here,
        evals_agree es vs (input.Next v) (state_behind l (set_in node blobs e state)) all.1
            (ap (option_map (state_behind l)) here),
      )

  -- the state behind a node, by its last evaluation
  pub last_behind : (es : List Entry) (rs : List Row) (state : S) (e : ℕ) → Agree (evals rs) (run_from l node blobs es state)
      → last_of es rs ≡ Made e → behind l homes e ≡ Some (state_after l state (run_from l node blobs es state))
  last_behind [] rs state e all last = absurd (cc)
  last_behind (x ∷ es) [] state e all last = absurd (cc)
  last_behind (x ∷ []) (r ∷ rs) state e all last =
      let same : r.evaluation ≡ e = cc in
      ap (behind l homes) (sym same) ∙ ap (option_map (state_behind l)) all.0
  last_behind (x ∷ y ∷ es) (r ∷ rs) state e all last =
      last_behind (y ∷ es) rs (state_behind l (set_in node blobs x state)) e all.1 last

  -- each of them, by its place
  pub agree_at : (vs : List ℕ) (ss : List (Setting S)) (i v : ℕ) → Agree vs ss → slice_get vs i ≡ Some v
      → (s : Setting S) × (slice_get ss i ≡ Some s) × (setting l homes v ≡ Some s)
  agree_at [] ss i v all at = absurd (cc)
  agree_at (w ∷ vs) [] i v all at = absurd all
  agree_at (w ∷ vs) (s ∷ ss) zero v all at = let same : w ≡ v = cc in (s, refl, ap (setting l homes) (sym same) ∙ all.0)
  agree_at (w ∷ vs) (s ∷ ss) (suc i) v all at = agree_at vs ss i v all.1 at
