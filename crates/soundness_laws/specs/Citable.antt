-- What a suggested proof may cite so that it can be written (this project's own).
use Rattle.std.specs.Prelude.{◌≡◌, ℕ, false, List}
use Rattle.text_words.specs.Identifier.{IsIdentifier}
use Rattle.outer_syntax.specs.Words.{is_in_force, is_minor_keyword}
use Rattle.nj_syntax.specs.Readable.{IsReadable}
use Rattle.theory_ctx.specs.declared.local.Local.{Local}

-- an identifier that is neither a minor keyword nor a command, where these are aliases of commands
abbrev pub IsFree : List (List ℕ) → List ℕ → Type 0
IsFree aliases x = IsIdentifier x × (is_in_force aliases x ≡ false) × (is_minor_keyword x ≡ false)

-- a fact of such a name, whose formula is read again from its text
abbrev pub IsCitable : List (List ℕ) → Local → Type 0
IsCitable aliases local = IsFree aliases local.name × IsReadable local.formula
