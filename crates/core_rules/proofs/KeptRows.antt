-- What an update keeps of a node's rows, and what it makes behind it.
use Rattle.std.proofs.Common.{◌≡◌, ℕ, zero, suc, ◌+◌, ◌<◌, ◌≤◌, Bool, true, false, cond, List, [], ◌∷◌, ◌++◌, length, take, drop, Option, Some, None, refl, ap, ◌∙◌, arith}
use Rattle.std.specs.Prelude.{⊤}
use Rattle.std.specs.List.{range_with_len}
use Rattle.text_words.specs.Members.{has}
use Rattle.doc_nodes.specs.declared.node.Entry.{Entry}
use Rattle.doc_nodes.specs.declared.node.Node.{Node}
use Rattle.exec_rules.specs.declared.row.Row.{Row}
use Rattle.exec_rules.specs.declared.home.Input.{Input}
use Rattle.exec_rules.specs.declared.home.Input.TheVariants as input
use Rattle.exec_rules.specs.Kept.{BlobList}
use Rattle.exec_rules.specs.Rows.{live_print, live_prints, first_print}
use Rattle.exec_rules.specs.Homes.{home}
use Rattle.core_rules.specs.Parts.{sources_of}
use Rattle.core_rules.proofs.Tables.{AtMost, OlderFrom}
use Rattle.core_rules.proofs.HomedRows.{Homes, evals, EvalsHomed, PrintHomed, PrintsHomed}
use Rattle.core_rules.proofs.Made.{Numbered, homes_from, range_homed, range_older}

pub at_most_range : (m n d : ℕ) → n + d ≤ suc m → AtMost m (range_with_len n d)
at_most_range m n zero le = tt
at_most_range m n (suc d) le = (omega arith, at_most_range m (n + 1) d (omega arith))

pub at_most_front : (m k : ℕ) (rs : List Row) → AtMost m (evals rs) → AtMost m (evals (take k rs))
at_most_front m zero rs all = tt
at_most_front m (suc k) [] all = tt
at_most_front m (suc k) (r ∷ rs) all = (all.0, at_most_front m k rs all.1)

module _ (node old : Node) (blobs before : BlobList) where
  -- a command and one before have the same source and blob
  abbrev pub SameHome : Entry → Entry → Type 0
  SameHome e b = (i : Input) → home old before b i ≡ home node blobs e i

  -- so have the first k
  abbrev pub SameFront : ℕ → List Entry → List Entry → Type 0
  SameFront zero es bs = ⊤
  SameFront (suc k) [] bs = ⊥
  SameFront (suc k) (e ∷ es) [] = ⊥
  SameFront (suc k) (e ∷ es) (b ∷ bs) = SameHome e b × SameFront k es bs

  module _ (at : Homes) (n d : ℕ) where
    -- the evaluations that are kept, and those behind them
    pub kept_homed : (k : ℕ) (es bs : List Entry) (rs : List Row) (i j : Input) → SameFront k es bs
        → EvalsHomed at old before bs (evals rs) j → (0 < k → j ≡ i) → k ≤ length rs → k + d ≤ length es
        → Numbered at n (drop k (homes_from node blobs es (evals (take k rs) ++ range_with_len n d) i))
        → EvalsHomed at node blobs es (evals (take k rs) ++ range_with_len n d) i
    kept_homed zero es bs rs i j same all first le long new = range_homed node blobs at n d es i (omega arith) new
    kept_homed (suc k) es bs [] i j same all first le long new = absurd (omega arith)
    kept_homed (suc k) [] bs (r ∷ rs) i j same all first le long new = absurd same
    kept_homed (suc k) (e ∷ es) [] (r ∷ rs) i j same all first le long new = absurd same
    kept_homed (suc k) (e ∷ es) (b ∷ bs) (r ∷ rs) i j same all first le long new = (
      all.0 ∙ ap (λ x. Some x) (same.0 j ∙ ap (home node blobs e) (first (omega arith))),
      kept_homed k es bs rs (input.Next r.evaluation) (input.Next r.evaluation) same.1 all.1 (λ lt. refl) (omega arith)
          (omega arith) new,
    )

    pub kept_older : (m k : ℕ) (es : List Entry) (rs : List Row) (i : Input) → n ≡ suc m → AtMost m (evals rs)
        → AtMost m (sources_of i) → k ≤ length rs
        → OlderFrom m (drop k (homes_from node blobs es (evals (take k rs) ++ range_with_len n d) i))
    kept_older m zero es rs i e all first le = range_older node blobs n m d es i e first
    kept_older m (suc k) es [] i e all first le = absurd (omega arith)
    kept_older m (suc k) [] (r ∷ rs) i e all first le = tt
    kept_older m (suc k) (x ∷ es) (r ∷ rs) i e all first le =
        kept_older m k es rs (input.Next r.evaluation) e all.1 (all.0, tt) (omega arith)

  -- the prints that can be kept go by the evaluations
  abbrev pub LiveHomed : Homes → List Entry → List ℕ → List (Option ℕ) → Type 0
  LiveHomed at [] vs live = ⊤
  LiveHomed at (e ∷ es) [] live = ⊤
  LiveHomed at (e ∷ es) (v ∷ vs) live =
      PrintHomed at node blobs e v (first_print live) × LiveHomed at es vs (drop 1 live)

  live_none : (at : Homes) (es : List Entry) (vs : List ℕ) → LiveHomed at es vs []
  live_none at [] vs = tt
  live_none at (e ∷ es) [] = tt
  live_none at (e ∷ es) (v ∷ vs) = (tt, live_none at es vs)

  live_one : (at : Homes) (cancelled : List ℕ) (e b : Entry) (v : ℕ) (o : Option ℕ) → SameHome e b
      → PrintHomed at old before b v o → PrintHomed at node blobs e v (live_print cancelled o)
  live_one at cancelled e b v None same all = tt
  live_one at cancelled e b v (Some q) same all = go (has cancelled q)
    where
      go : (x : Bool) → PrintHomed at node blobs e v (cond x None (Some q))
      go true = tt
      go false = all ∙ ap (λ h. Some h) (same (input.Print v))

  pub kept_live : (at : Homes) (cancelled : List ℕ) (k : ℕ) (es bs : List Entry) (rs : List Row) (ws : List ℕ)
      → SameFront k es bs → PrintsHomed at old before bs rs
      → LiveHomed at es (evals (take k rs) ++ ws) (live_prints cancelled rs k)
  kept_live at cancelled zero es bs rs ws same all = live_none at es ws
  kept_live at cancelled (suc k) es bs [] ws same all = live_none at es ws
  kept_live at cancelled (suc k) [] bs (r ∷ rs) ws same all = tt
  kept_live at cancelled (suc k) (e ∷ es) [] (r ∷ rs) ws same all = absurd same
  kept_live at cancelled (suc k) (e ∷ es) (b ∷ bs) (r ∷ rs) ws same all = (
    live_one at cancelled e b r.evaluation r.print same.0 all.0,
    kept_live at cancelled k es bs rs ws same.1 all.1,
  )
