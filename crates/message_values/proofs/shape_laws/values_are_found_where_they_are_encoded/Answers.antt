-- By what is found, and by what is encoded.
use Rattle.std.proofs.Common.{ap, ◌∙◌}
use Rattle.message_values.specs.Shapes.{number_in}
use Rattle.message_values.specs.Words.{id_in, name_in, text_in, range_in, edit_in}
use Rattle.message_values.proofs.KnownEdits.{edit_found, edit_finds}
use Rattle.message_values.proofs.KnownWords.{number_found, number_finds, id_found, id_finds, name_found, name_finds, text_found_in, text_finds, range_found, range_finds}
use Rattle.message_values.proofs.shape_laws.values_are_found_where_they_are_encoded.Goals as goal

pub returns-clause-number : goal.returns-clause-number
returns-clause-number c = λ body n. (number_found body n, λ h. ap number_in h.1 ∙ number_finds n h.0)

pub returns-clause-id : goal.returns-clause-id
returns-clause-id c = λ body n. (id_found body n, λ h. ap id_in h.1 ∙ id_finds n h.0)

pub returns-clause-name : goal.returns-clause-name
returns-clause-name c = λ body name. (name_found body name, λ h. ap name_in h.1 ∙ name_finds name h.0)

pub returns-clause-text : goal.returns-clause-text
returns-clause-text c = λ body scalars. (text_found_in body scalars, λ h. ap text_in h.1 ∙ text_finds scalars h.0)

pub returns-clause-range : goal.returns-clause-range
returns-clause-range c = λ body r. (range_found body r, λ h. ap range_in h.1 ∙ range_finds r h.0)

pub returns-clause-edit : goal.returns-clause-edit
returns-clause-edit c = λ body e. (edit_found body e, λ h. ap edit_in h.1 ∙ edit_finds e h.0)
