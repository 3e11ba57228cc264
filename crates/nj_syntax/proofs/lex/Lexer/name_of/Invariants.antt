use Rattle.std.proofs.Common.{◌≡◌, ◌++◌, IsTrue, drop}
use Rattle.std.specs.Prelude.{string_bytes}
use Rattle.std.specs.List.{list_all}
use Rattle.text_words.specs.Identifier.{is_identifier_part}
use Rattle.nj_syntax.proofs.lex.Lexer.name_of.Given as goal

abbrev pub invariant-loop-c : goal.invariant-loop-c
invariant-loop-c l =
    (string_bytes l.letters ++ drop l.c-index l.scalars ≡ l.scalars)
    × IsTrue (list_all is_identifier_part (drop l.c-index l.scalars))
