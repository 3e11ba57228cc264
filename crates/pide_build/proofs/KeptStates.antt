-- One node more is done.
use Rattle.std.proofs.Common.{◌≡◌, ℕ, zero, suc, ◌<◌, ◌==◌, eqb, Bool, true, false, cond, List, [], ◌∷◌, length, get_or, set, get_or-set_same, get_or-set_other, length-set, Option, Some, None, find, refl, sym, ap, subst, ◌∙◌, arith}
use Rattle.std.specs.Prelude.{option_and_then, slice_get}
use Rattle.std.specs.Option.{option_map, option_map_or}
use Rattle.std.proofs.lemmas.Bool.Decides.{nat_tests}
use Rattle.doc_nodes.specs.declared.node.Node.{Node}
use Rattle.doc_nodes.specs.Imports.{NodeList}
use Rattle.language.specs.Lang.{Lang}
use Rattle.core_rules.specs.Scratch.{Run, Runs, begins_at, final, final_at, run_node}
use Rattle.pide_build.specs.Handed.{AreBehind}
use Rattle.pide_build.specs.declared.telling.BuiltNode.{BuiltNode}
use Rattle.pide_build.specs.declared.telling.Checked.{Checked}
use Rattle.pide_build.specs.Tasks.{MakesSo, built_by}
use Rattle.pide_build.specs.Running.{run_beside}
use Rattle.pide_build.specs.declared.progress.Progress.{Progress}
use Rattle.pide_build.specs.Standing.{Keeps, built_there, told_at}

-- there is a node at each place
pub pair_at : (nodes : NodeList) (p : ℕ) → p < length nodes → (pair : List ℕ × Node) × (slice_get nodes p ≡ Some pair)
pair_at [] p lt = absurd (omega arith)
pair_at (pair ∷ nodes) zero lt = (pair, refl)
pair_at (pair ∷ nodes) (suc p) lt = pair_at nodes p (omega arith)

module _ {S M : Type 0} (l : Lang S) (told : BuiltNode → M) (nodes : NodeList) (before runs : Runs S) (behind : List (Option S))
    (stands : AreBehind l before behind) (p : ℕ) (made : Checked M S) (makes : MakesSo l told nodes behind p made) (lt : p < length nodes) where
  abbrev pair : List ℕ × Node
  pair = (pair_at nodes p lt).0

  abbrev run : Run S
  run = run_node l pair.1 [] (begins_at l nodes before p pair)

  abbrev done : Runs S
  done = (p, run) ∷ runs

  there : slice_get nodes p ≡ Some pair
  there = (pair_at nodes p lt).1

  beside : run_beside l nodes [] before p runs ≡ done
  beside = ap (λ o. option_map_or (λ one. (p, run_node l one.1 [] (begins_at l nodes before p one)) ∷ runs) o runs) there

  abbrev found : ℕ → Bool → Option (ℕ × Run S)
  found q b = cond b (Some (p, run)) (find (λ one. one.0 == q) runs)

  -- the state behind a place, by whether it is this one
  state_at : (states : List (Option S)) (q : ℕ) (b : Bool) → eqb p q ≡ b → p < length states
      → (get_or states q None ≡ final_at l runs q) → get_or (set states p (Some made.behind)) q None ≡ final_at l done q
  state_at states q true e in_range kept =
      let same : p ≡ q = grind (arith, nat_tests) in
      ap (λ r. get_or (set states p (Some made.behind)) r None) (sym same) ∙ get_or-set_same states p (Some made.behind) None in_range
      ∙ ap Some (makes before pair stands there).behind ∙ ap (λ b. option_map (λ one. final l one.1) (found q b)) (sym e)
  state_at states q false e in_range kept =
      let other : q ≡ p → ⊥ = grind (arith, nat_tests) in
      get_or-set_other states p q (Some made.behind) None other ∙ kept
      ∙ ap (λ b. option_map (λ one. final l one.1) (found q b)) (sym e)

  abbrev told_by : Option (ℕ × Run S) → Option M
  told_by o = option_map told (option_and_then (built_there l nodes) o)

  -- and what is told of it
  telling_at : (tellings : List (Option M)) (q : ℕ) (b : Bool) → eqb p q ≡ b → p < length tellings
      → (get_or tellings q None ≡ told_at l told nodes runs q) → get_or (set tellings p (Some made.told)) q None ≡ told_at l told nodes done q
  telling_at tellings q true e in_range kept =
      let same : p ≡ q = grind (arith, nat_tests) in
      ap (λ r. get_or (set tellings p (Some made.told)) r None) (sym same) ∙ get_or-set_same tellings p (Some made.told) None in_range
      ∙ ap Some (makes before pair stands there).told_is
      ∙ ap (λ o. option_map told (option_map (λ one. built_by l one run) o)) (sym there) ∙ ap (λ b. told_by (found q b)) (sym e)
  telling_at tellings q false e in_range kept =
      let other : q ≡ p → ⊥ = grind (arith, nat_tests) in
      get_or-set_other tellings p q (Some made.told) None other ∙ kept ∙ ap (λ b. told_by (found q b)) (sym e)

  pub kept_one : (old new : Progress M S) → Keeps l told nodes runs old → new.behind.items ≡ set old.behind.items p (Some made.behind)
      → new.told.items ≡ set old.told.items p (Some made.told) → Keeps l told nodes (run_beside l nodes [] before p runs) new
  kept_one old new keeps states tellings =
      let some : p < length old.behind.items = omega (arith, keeps.states, lt) in
      let others : p < length old.told.items = omega (arith, keeps.tellings, lt) in
      subst (λ rs. Keeps l told nodes rs new) (sym beside) (record {
        behind = λ q. ap (λ xs. get_or xs q None) states ∙ state_at old.behind.items q (eqb p q) refl some (keeps.behind q);
        told_is = λ q. ap (λ xs. get_or xs q None) tellings ∙ telling_at old.told.items q (eqb p q) refl others (keeps.told_is q);
        states = ap length states ∙ length-set old.behind.items p (Some made.behind) ∙ keeps.states;
        tellings = ap length tellings ∙ length-set old.told.items p (Some made.told) ∙ keeps.tellings;
      })
