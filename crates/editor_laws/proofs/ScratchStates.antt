-- What holds of each state in which a command is run from nothing.
use Rattle.std.proofs.Common.{◌≡◌, ℕ, zero, suc, Bool, true, false, cond, List, [], ◌∷◌, find}
use Rattle.std.proofs.Common.{Option, Some, None, refl, sym, ap, subst, ◌∙◌}
use Rattle.std.proofs.lemmas.Bool.{eqb-true}
use Rattle.std.specs.Prelude.{◌==◌, slice_get, IfSome}
use Rattle.std.specs.List.{AllByRecursion}
use Rattle.std.specs.Option.{option_map_or}
use Rattle.doc_nodes.specs.declared.node.Entry.{Entry}
use Rattle.doc_nodes.specs.declared.node.Node.{Node}
use Rattle.doc_nodes.specs.Imports.{NodeList, order}
use Rattle.doc_nodes.specs.Aliases.{aliases_at}
use Rattle.exec_rules.specs.Kept.{BlobList}
use Rattle.language.specs.declared.made.Imports.{Imports}
use Rattle.language.specs.Lang.{Lang}
use Rattle.core_rules.specs.Settings.{Setting, state_behind}
use Rattle.core_rules.specs.Scratch.{Run, Runs, set_in, run_from, begins_at, run_node, run_one}
use Rattle.core_rules.specs.Scratch.{run_all, scratch, scratch_at}

module _ {S : Type 0} (l : Lang S) (nodes : NodeList) (blobs : BlobList) where
  -- a node's commands are run from a state that it may begin in, with its aliases
  abbrev IsBegun : ℕ × Run S → Type 0
  IsBegun one = (name : List ℕ) × (imports : Imports S) × (node : Node)
      × (one.1.commands
      ≡ run_from l node blobs node.entries (l.start name imports (aliases_at nodes one.0)))

  all-begun : (ps : List ℕ) (runs : Runs S) → AllByRecursion IsBegun runs
      → AllByRecursion IsBegun (run_all l nodes blobs ps runs)
  all-begun [] runs all = all
  all-begun (p ∷ ps) runs all = all-begun ps (run_one l nodes blobs runs p) (go (slice_get nodes p))
    where
      go : (o : Option (List ℕ × Node)) → AllByRecursion IsBegun
          (option_map_or
          (λ pair. (p, run_node l pair.1 blobs (begins_at l nodes runs p pair)) ∷ runs) o runs)
      go None = all
      go (Some pair) = ((pair.0, _, pair.1, refl), all)

  found-at : (p : ℕ) (runs : Runs S) → AllByRecursion IsBegun runs
      → IfSome (find (λ one. one.0 == p) runs) (λ one. (one.0 ≡ p) × IsBegun one)
  found-at p [] all = tt
  found-at p (one ∷ runs) all = go (one.0 == p) refl (found-at p runs all.1)
    where
      go : (b : Bool) → (one.0 == p) ≡ b
          → IfSome (find (λ o. o.0 == p) runs) (λ o. (o.0 ≡ p) × IsBegun o)
          → IfSome (cond b (Some one) (find (λ o. o.0 == p) runs)) (λ o. (o.0 ≡ p) × IsBegun o)
      go true is rest = (eqb-true one.0 p is, all.0)
      go false is rest = rest

  -- by the places of commands, what holds at first and behind each
  along : (P : ℕ → S → Type 0) (node : Node) (es : List Entry) (state : S) → P 0 state
      → ((i : ℕ) (s : Setting S) → P i s.state → P (suc i) (state_behind l s))
      → (i : ℕ) (s : Setting S) → slice_get (run_from l node blobs es state) i ≡ Some s
      → P i s.state
  along P node [] state first next i s at = absurd (cc (at))
  along P node (e ∷ es) state first next zero s at =
      let same : set_in node blobs e state
      ≡ s = cc (at) in subst (λ (t : Setting S). P 0 t.state) same first
  along P node (e ∷ es) state first next (suc i) s at =
      let here = set_in node blobs e state in
      along (λ k. P (suc k)) node es (state_behind l here) (next 0 here first)
      (λ k. next (suc k)) i s at

  pub each_state : (P : ℕ → S → Type 0) (p : ℕ)
      → ((name : List ℕ) (imports : Imports S) → P 0 (l.start name imports (aliases_at nodes p)))
      → ((i : ℕ) (s : Setting S) → P i s.state → P (suc i) (state_behind l s))
      → (i : ℕ) (s : Setting S) → slice_get (scratch_at l nodes blobs p) i ≡ Some s → P i s.state
  each_state P p first next i s = go (find (λ one. one.0 == p) (scratch l nodes blobs))
      (found-at p (scratch l nodes blobs) (all-begun (order nodes) [] tt))
    where
      go : (o : Option (ℕ × Run S)) → IfSome o (λ one. (one.0 ≡ p) × IsBegun one)
          → slice_get (option_map_or (λ one. one.1.commands) o []) i ≡ Some s → P i s.state
      go None begun at = absurd (cc (at))
      go (Some one) (same, (name, imports, node, is)) at =
          along P node node.entries (l.start name imports (aliases_at nodes one.0))
          (subst (λ q. P 0 (l.start name imports (aliases_at nodes q))) (sym same)
          (first name imports)) next i s
          (sym (ap (λ ss. slice_get ss i) is) ∙ at)
