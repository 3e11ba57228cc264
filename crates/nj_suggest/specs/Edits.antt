-- The edit that puts a suggested proof in (this project's own).
use Rattle.std.specs.Prelude.{ℕ, List, [], ◌∷◌, ◌++◌}
use Rattle.text_edits.specs.declared.edit.Edit.{Edit}
use Rattle.text_edits.specs.declared.edit.Edit.TheVariants.{Insert}

-- the text with a space before and behind it, put in at the end of a command
abbrev pub edit : ℕ → List ℕ → Edit
edit stop text = Insert stop (32 ∷ (text ++ 32 ∷ []))
