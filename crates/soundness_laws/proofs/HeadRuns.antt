-- Where headers are the same, so is what nodes have from imports that have come to the same.
use Rattle.std.proofs.Common.{◌≡◌, ℕ, not, List, find, filter_map, option_map, Option, Some, None, refl, ◌∙◌, ap}
use Rattle.std.specs.Option.{option_and_then}
use Rattle.doc_nodes.specs.Rounds.{in_rounds, is_known}
use Rattle.doc_nodes.specs.Imports.{NodeList, is_bad}
use Rattle.language.specs.declared.made.Imports.TheVariants.{Ordered}
use Rattle.core_rules.specs.Scratch.{Runs, final_at, imports_run}
use Rattle.isar_rules.specs.declared.state.State.{State}
use Rattle.isar_rules.specs.Isar.{isar}
use Rattle.soundness_laws.proofs.SameAliases.{SameHeads, aims_same, places}

module _ (ns ms : NodeList) (same : SameHeads ns ms) where
  bad_same : (name : List ℕ) → is_bad ns name ≡ is_bad ms name
  bad_same name = λ i. not (is_known (in_rounds (aims_same ns ms same i)) (places ns ms same name i))

  given_same : (runs : Runs State) (imports : List (List ℕ)) (o : Option (List ℕ)) → imports_run isar ns runs imports o ≡ imports_run isar ms runs imports o
  given_same runs imports None = λ i. Ordered (filter_map
      (λ name. option_map (λ state. record { name = name; state = state }) (option_and_then (final_at isar runs) (places ns ms same name i))) imports)
  given_same runs imports (Some name) = refl

  pub imports_same : (runs : Runs State) (imports : List (List ℕ))
      → imports_run isar ns runs imports (find (is_bad ns) imports) ≡ imports_run isar ms runs imports (find (is_bad ms) imports)
  imports_same runs imports = given_same runs imports (find (is_bad ns) imports) ∙ ap (imports_run isar ms runs imports) (λ i. find (λ name. bad_same name i) imports)
