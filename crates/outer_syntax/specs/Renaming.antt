-- Tokens under other names (this project's own).
use Rattle.std.specs.Prelude.{ℕ, Bool, true, false, if◌then◌else◌, List}
use Rattle.outer_syntax.specs.Words.{kind_of}
use Rattle.outer_syntax.specs.Tokens.{text_of}
use Rattle.outer_syntax.specs.declared.kind.Kind.{Kind}
use Rattle.outer_syntax.specs.declared.kind.Kind.TheVariants.{Command, Keyword, Ident}
use Rattle.outer_syntax.specs.declared.row.Row.TheVariants.{Word}
use Rattle.outer_syntax.specs.declared.token.Token.{Token}

-- the kind of an identifier: a command, a keyword or neither
abbrev pub is_word : Kind → Bool
is_word Command = true
is_word Keyword = true
is_word Ident = true
is_word _ = false

-- the token with the kind that it has under these names, which tell the kinds of words alone
abbrev pub renamed : (List ℕ → Bool) → List ℕ → Token → Token
renamed is_command text t =
    if is_word t.kind then record t { kind = kind_of is_command Word (text_of text t) } else t
