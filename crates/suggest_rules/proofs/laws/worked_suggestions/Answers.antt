use Rattle.std.proofs.Common.{refl}
use Rattle.std.specs.Fmt.{digits}
use Rattle.suggest_rules.proofs.KnownSuggestions.{swaps, swaps_text, without_rule, renamed, none, no_fact}
use Rattle.suggest_rules.proofs.laws.worked_suggestions.Goals as goal

pub returns-clause-names : goal.returns-clause-names
unfolding digits
returns-clause-names c = record {
  first = refl;
  third = refl;
  beside_fact = refl;
  beside_both = refl;
  beside_alias = refl;
}

pub returns-clause-cited : goal.returns-clause-cited
returns-clause-cited c = record { hidden = refl; hidden_first = refl; sixteen = refl }

pub returns-clause-suggestions : goal.returns-clause-suggestions
returns-clause-suggestions c = record {
  swaps = swaps;
  swaps_text = swaps_text;
  without_rule = without_rule;
  renamed = renamed;
  none = none;
  no_fact = no_fact;
}
