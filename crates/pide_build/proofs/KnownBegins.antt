-- How nodes begin goes by their names and headers alone.
use Rattle.std.proofs.Common.{◌≡◌, ℕ, List, [], ◌∷◌, find, filter_map, Option, Some, None, refl, ap, ap₂, ◌∙◌}
use Rattle.std.specs.Prelude.{option_and_then}
use Rattle.std.specs.Option.{option_map}
use Rattle.std.specs.List.{cons_option}
use Rattle.doc_nodes.specs.declared.node.Node.{Node}
use Rattle.doc_nodes.specs.Imports.{NodeList, is_bad}
use Rattle.doc_nodes.specs.Heads.{heads}
use Rattle.doc_nodes.proofs.KnownHeads.{aliases_head, bad_head, place_head}
use Rattle.language.specs.Lang.{Lang}
use Rattle.language.specs.declared.made.Imports.TheVariants.{Ordered}
use Rattle.core_rules.specs.Scratch.{Runs, begins_at, final_at, import_run, imports_run}

module _ {S : Type 0} (l : Lang S) (runs : Runs S) where
  imports_head : (nodes : NodeList) (names : List (List ℕ)) → filter_map (import_run l (heads nodes) runs) names ≡ filter_map (import_run l nodes runs) names
  imports_head nodes [] = refl
  imports_head nodes (name ∷ names) =
      ap₂ cons_option
      (ap (λ place. option_map (λ state. record { name = name; state = state }) (option_and_then (final_at l runs) place)) (place_head nodes name))
      (imports_head nodes names)

  by_bad : (nodes : NodeList) (names : List (List ℕ)) (bad : Option (List ℕ)) → imports_run l (heads nodes) runs names bad ≡ imports_run l nodes runs names bad
  by_bad nodes names None = ap Ordered (imports_head nodes names)
  by_bad nodes names (Some name) = refl

  pub begins_head : (p : ℕ) (pair : List ℕ × Node) (nodes : NodeList) → begins_at l (heads nodes) runs p pair ≡ begins_at l nodes runs p pair
  begins_head p pair nodes =
      ap₂ (l.start pair.0)
      (ap (imports_run l (heads nodes) runs pair.1.imports) (bad_head nodes pair.1.imports)
      ∙ by_bad nodes pair.1.imports (find (is_bad nodes) pair.1.imports))
      (aliases_head p nodes)
