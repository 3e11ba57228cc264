-- A text while edits are made of it (this project's own).
use Rattle.std.specs.Prelude.{ℕ, List}
use Rattle.editor_buffer.specs.declared.editing.Held.{Held}
use Rattle.editor_buffer.specs.declared.editing.Held.TheVariants.{Lent, Own}

-- the text that is held
abbrev pub text_of : Held → List ℕ
text_of (Lent text) = text.now
text_of (Own text) = text
