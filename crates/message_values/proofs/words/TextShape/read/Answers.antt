-- A `str` is UTF-8, so it has scalars.
use Rattle.message_values.proofs.KnownTexts.{text_found}
use Rattle.message_values.proofs.words.TextShape.read.Goals as goal

pub returns : goal.returns
returns c = text_found _ _ _ _ c.in_ok-text.ensures c.as_str.ensures c.as_str.utf8 c.in_ok-from_str.ensures
