use Rattle.std.proofs.Common.{subst}
use Rattle.std.proofs.lemmas.List.{take_rest}
use Rattle.text_words.specs.Longest.{HasNoFront, IsLongest}
use Rattle.outer_syntax.specs.Brackets.{ClosesText}
use Rattle.outer_syntax.proofs.FirstLemmas.{closed-first, unclosed-first}
use Rattle.outer_syntax.proofs.bracket.bracket_row.Goals as goal

pub returns-in-Some-inside_len : goal.returns-in-Some-inside_len
returns-in-Some-inside_len c =
    closed-first c.args.bracket c.args.text.now _ c.in-Some.n c.in-Some.ensures.0 c.in-Some.ensures.2 c.in-Some-inside_len.m
    (subst (λ r. IsLongest (ClosesText c.args.bracket 1) r c.in-Some-inside_len.m) (take_rest c.args.text.now c.in-Some.n) c.in-Some-inside_len.ensures)

pub returns-in-None-inside_len : goal.returns-in-None-inside_len
returns-in-None-inside_len c =
    unclosed-first c.args.bracket c.args.text.now _ c.in-Some.n c.in-Some.ensures.0 c.in-Some.ensures.2
    (subst (HasNoFront (ClosesText c.args.bracket 1)) (take_rest c.args.text.now c.in-Some.n) c.in-None-inside_len.ensures)
