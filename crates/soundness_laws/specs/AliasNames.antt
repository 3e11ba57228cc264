-- Names of aliases (this project's own).
use Rattle.std.specs.Prelude.{◌≡◌, ℕ, false, List}
use Rattle.text_words.specs.Identifier.{IsIdentifier}
use Rattle.outer_syntax.specs.Words.{is_base_command, is_minor_keyword}

-- an identifier that is neither a command of the language's own nor a minor keyword
abbrev pub IsAliasName : List ℕ → Type 0
IsAliasName x =
    IsIdentifier x × (is_base_command x ≡ false) × (is_minor_keyword x ≡ false)
