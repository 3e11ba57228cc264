-- A text is UTF-8.
use Rattle.std.proofs.Common.{ap, ◌∙◌}
use Rattle.std.specs.Str.{is_utf8}
use Rattle.std.proofs.lemmas.Str.{IsUtf8-string_bytes, is_utf8-from_IsUtf8}
use Rattle.made_document.proofs.bytes.items_chunk.Goals as goal

pub returns-clause-utf8 : goal.returns-clause-utf8
returns-clause-utf8 c = ap is_utf8 (c.from_vec.ensures ∙ ap (λ v. v.items) c.into_bytes-bytes.ensures.value) ∙ is_utf8-from_IsUtf8 _ (IsUtf8-string_bytes c.in_ok-text.field-0)
