use Rattle.std.proofs.Common.{subst, sym}
use Rattle.std.proofs.lemmas.List.{take_rest}
use Rattle.text_words.specs.Longest.{HasNoFront, IsLongest}
use Rattle.text_words.specs.Identifier.{IsIdentifier}
use Rattle.outer_syntax.specs.Forms.{IsDotted}
use Rattle.outer_syntax.proofs.LongLemmas.{joined-start, joined-more, long-some, long-none}
use Rattle.outer_syntax.proofs.FirstLemmas.{word-first, long-first}
use Rattle.outer_syntax.proofs.long_name.word.Goals as goal

pub loop-n-init : goal.loop-n-init
loop-n-init c = joined-start c.args.text.now _ c.in-Some.ensures

pub loop-n-preserved : goal.loop-n-preserved
loop-n-preserved c = joined-more c.loop-n.invariant _ (subst (λ r. IsLongest IsDotted r c.in-Some-dotted_name.n) (take_rest c.args.text.now c.loop-n.at) c.in-Some-dotted_name.ensures)

pub returns-then-at-first : goal.returns-then-at-first
returns-then-at-first c =
    word-first c.args.text.now c.loop-n.at (subst (IsLongest IsIdentifier c.args.text.now) (sym c.if-at-first.true) c.in-Some.ensures)
    (long-none c.loop-n.invariant c.in-Some.ensures (subst (HasNoFront IsDotted) (take_rest c.args.text.now c.loop-n.at) c.in_default-dotted_name.ensures) c.if-at-first.true)

pub returns-else-at-first : goal.returns-else-at-first
returns-else-at-first c =
    long-first c.args.text.now _ c.loop-n.at c.in-Some.ensures
    (long-some c.loop-n.invariant c.in-Some.ensures (subst (HasNoFront IsDotted) (take_rest c.args.text.now c.loop-n.at) c.in_default-dotted_name.ensures) c.if-at-first.false)
