-- How a node begins (after Isabelle's theory headers; this project's own).
use Rattle.std.specs.Prelude.{ℕ, List, find, is_none, Option, Some, None}
use Rattle.std.specs.List.{filter_map}
use Rattle.theory_ctx.specs.Facts.{Fact}
use Rattle.theory_ctx.specs.Merged.{merged_facts}
use Rattle.doc_nodes.specs.declared.inherited.NodeAliases.{NodeAliases}
use Rattle.language.specs.declared.made.Imported.{Imported}
use Rattle.language.specs.declared.made.Imports.{Imports}
use Rattle.language.specs.declared.made.Imports.TheVariants as imports
use Rattle.isar_rules.specs.declared.state.Given.{Given}
use Rattle.isar_rules.specs.declared.state.Given.TheVariants.{Facts, Bad}
use Rattle.isar_rules.specs.declared.state.Place.{Place}
use Rattle.isar_rules.specs.declared.state.Place.TheVariants as place
use Rattle.isar_rules.specs.declared.state.State.{State}

-- the facts at a place; before and outside of a theory there are none to give
abbrev pub facts_at : Place → Option (List Fact)
facts_at (place.Theory theory) = Some theory.facts
facts_at (place.Proof theory name goal proof) = Some theory.facts
facts_at (place.End theory) = Some theory.facts
facts_at _ = None

-- the facts that an import has
abbrev pub imported_facts : Imported State → Option (List Fact)
imported_facts i = facts_at i.state.place

-- the facts of all imports, unless one has none to give
abbrev pub imports_given : List (Imported State) → Option (Imported State) → Given
imports_given all None = Facts (merged_facts (filter_map imported_facts all))
imports_given all (Some bad) = Bad bad.name

-- what a node has from its imports
abbrev pub given_from : Imports State → Given
given_from (imports.Ordered all) = imports_given all (find (λ i. is_none (imported_facts i)) all)
given_from (imports.Bad name) = Bad name

-- the state before the first command of a node
abbrev pub start_state : List ℕ → Imports State → NodeAliases → State
start_state node imports aliases = record {
  place = place.Start node (given_from imports) aliases.bad;
  aliases = aliases.pairs;
}
