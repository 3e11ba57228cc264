-- A node begins the same, whatever nodes are done beside it that it doesn't import.
use Rattle.std.proofs.Common.{◌≡◌, ℕ, ◌==◌, false, cond, List, [], ◌∷◌, Option, Some, None, find, filter_map, refl, ap, ◌∙◌}
use Rattle.std.specs.Prelude.{option_and_then}
use Rattle.std.specs.Option.{option_map}
use Rattle.std.specs.List.{AllByRecursion, cons_option}
use Rattle.doc_nodes.specs.declared.node.Node.{Node}
use Rattle.doc_nodes.specs.Aliases.{aliases_at}
use Rattle.doc_nodes.specs.Imports.{NodeList, is_bad, place_of}
use Rattle.language.specs.Lang.{Lang}
use Rattle.language.specs.declared.made.Imports.TheVariants.{Ordered}
use Rattle.core_rules.specs.Scratch.{Run, Runs, begins_at, final, final_at, import_run, imports_run}

-- what is done at a place
abbrev pub done_at : {S : Type 0} → Runs S → ℕ → Option (ℕ × Run S)
done_at runs q = find (λ one. one.0 == q) runs

-- a node at another place changes nothing there
pub done_beside : {S : Type 0} (p q : ℕ) (run : Run S) (runs : Runs S) → (p == q) ≡ false → done_at ((p, run) ∷ runs) q ≡ done_at runs q
done_beside {S = S} p q run runs other =
    let here : Option (ℕ × Run S) = Some (p, run) in
    ap (λ b. cond b here (done_at runs q)) other

module _ {S : Type 0} (l : Lang S) (nodes : NodeList) (before runs : Runs S) where
  -- at the place of each import the same is done
  abbrev pub AreAlike : List (List ℕ) → Type 0
  AreAlike names = AllByRecursion (λ name. (q : ℕ) → place_of nodes name ≡ Some q → done_at runs q ≡ done_at before q) names

  final_alike : (p : Option ℕ) → ((q : ℕ) → p ≡ Some q → done_at runs q ≡ done_at before q)
      → option_and_then (final_at l runs) p ≡ option_and_then (final_at l before) p
  final_alike None alike = refl
  final_alike (Some q) alike = ap (option_map (λ one. final l one.1)) (alike q refl)

  imports_alike : (names : List (List ℕ)) → AreAlike names → filter_map (import_run l nodes runs) names ≡ filter_map (import_run l nodes before) names
  imports_alike [] alike = refl
  imports_alike (name ∷ names) alike =
      let first : import_run l nodes runs name ≡ import_run l nodes before name =
      ap (option_map (λ state. record { name = name; state = state })) (final_alike (place_of nodes name) alike.0) in
      ap (λ o. cons_option o (filter_map (import_run l nodes runs) names)) first
      ∙ ap (cons_option (import_run l nodes before name)) (imports_alike names alike.1)

  by_bad : (imports : List (List ℕ)) (bad : Option (List ℕ)) → (bad ≡ None → AreAlike imports)
      → imports_run l nodes runs imports bad ≡ imports_run l nodes before imports bad
  by_bad imports (Some name) alike = refl
  by_bad imports None alike = ap Ordered (imports_alike imports (alike refl))

  pub begins_alike : (p : ℕ) (pair : List ℕ × Node) → (find (is_bad nodes) pair.1.imports ≡ None → AreAlike pair.1.imports)
      → begins_at l nodes runs p pair ≡ begins_at l nodes before p pair
  begins_alike p pair alike =
      ap (λ imports. l.start pair.0 imports (aliases_at nodes p)) (by_bad pair.1.imports (find (is_bad nodes) pair.1.imports) alike)
