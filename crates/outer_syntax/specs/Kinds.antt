-- Tests of the kinds of tokens (this project's own).
use Rattle.std.specs.Prelude.{Bool, true, false}
use Rattle.outer_syntax.specs.declared.kind.Kind.{Kind}
use Rattle.outer_syntax.specs.declared.kind.Kind.TheVariants.{Space, Comment, String, Command, Keyword, Ident, Sym}

-- spaces and comments are improper, all other tokens proper
abbrev pub is_proper : Kind → Bool
is_proper Space = false
is_proper Comment = false
is_proper _ = true

-- a command name
abbrev pub is_command : Kind → Bool
is_command Command = true
is_command _ = false

-- a minor keyword
abbrev pub is_keyword : Kind → Bool
is_keyword Keyword = true
is_keyword _ = false

-- an identifier that is neither
abbrev pub is_name : Kind → Bool
is_name Ident = true
is_name _ = false

-- one other scalar
abbrev pub is_sym : Kind → Bool
is_sym Sym = true
is_sym _ = false

-- a string
abbrev pub is_string : Kind → Bool
is_string String = true
is_string _ = false
