-- By what is found, and by what is put.
use Rattle.std.proofs.Common.{ap, ◌∙◌}
use Rattle.message_values.specs.Shapes.{string_in, bool_in, pair_in, list_in, option_in, variant_in}
use Rattle.message_values.proofs.KnownFound.{string_sound, bool_sound, pair_sound, list_sound, option_sound, variant_sound}
use Rattle.message_values.proofs.KnownFinds.{string_complete, bool_complete, pair_complete, list_complete, option_complete, variant_complete}
use Rattle.message_values.proofs.shape_laws.parts_are_found_where_they_are_put.Goals as goal

pub returns-clause-string : goal.returns-clause-string
returns-clause-string c = λ body text. (string_sound body text, λ e. ap string_in e ∙ string_complete text)

pub returns-clause-bool : goal.returns-clause-bool
returns-clause-bool c = λ body b. (bool_sound body b, λ e. ap bool_in e ∙ bool_complete b)

pub returns-clause-pair : goal.returns-clause-pair
returns-clause-pair c = λ body first second. (pair_sound body first second, λ e. ap pair_in e ∙ pair_complete first second)

pub returns-clause-list : goal.returns-clause-list
returns-clause-list c = λ body items. (list_sound body items, λ e. ap list_in e ∙ list_complete items)

pub returns-clause-option : goal.returns-clause-option
returns-clause-option c = λ body item. (option_sound body item, λ e. ap option_in e ∙ option_complete item)

pub returns-clause-variant : goal.returns-clause-variant
returns-clause-variant c = λ body v. (λ e. let s = variant_sound body v e in (s.small, s.same), λ h. ap variant_in h.1 ∙ variant_complete v h.0)
