use Rattle.text_words.proofs.KnownLists.{each-so}
use Rattle.isar_rules.proofs.KnownPlaced.{isar_placed}
use Rattle.isar_rules.specs.Steps.{aliases_at}
use Rattle.editor_laws.proofs.TokenPlaces.{placed_stands}
use Rattle.editor_laws.proofs.editor_facts.placed_law.Goals as goal

pub returns-clause-tokens : goal.returns-clause-tokens
returns-clause-tokens c = isar_placed

pub returns-clause-symbols : goal.returns-clause-symbols
returns-clause-symbols c = λ source blob before some.
    each-so _ _ (λ r placed. placed_stands source (c.symbol_law.ensures source)
    (c.places_in_symbols.ensures.just source)
    (aliases_at before.place before.aliases) some r.range placed) _ (isar_placed source blob before)
