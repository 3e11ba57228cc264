-- The pieces are read one by one.
use Rattle.std.proofs.Common.{rules}
use Rattle.std.proofs.lemmas.Result.{err_from_is_err_and}
use Rattle.yxml.proofs.Attributes.{next_bad, next_good, last_bad, last_good}
use Rattle.yxml.proofs.tag.read_attributes.Goals as goal

pub returns-in_err-attribute-clause-err : goal.returns-in_err-attribute-clause-err
returns-in_err-attribute-clause-err c =
    let p = err_from_is_err_and c.from_residual.result c.from_residual.ensures.1 in
    rw (p.1, p.2) (λ ne. let q = c.in_err-attribute.ensures.err ne in
    (q.0, next_bad _ _ _ c.loop-first.invariant.1 _ _ c.in-Some.ensures q.1))

pub loop-first-preserved : goal.loop-first-preserved
loop-first-preserved c = (
  search rules,
  rw c.in_ok-push.ensures.ok
      (next_good _ _ _ c.loop-first.invariant.1 _ _ _ c.in-Some.ensures c.in_ok-attribute.ensures.ok),
)

pub returns-in_err-last-clause-err : goal.returns-in_err-last-clause-err
returns-in_err-last-clause-err c =
    let p = err_from_is_err_and c.from_residual-in_err-last.result c.from_residual-in_err-last.ensures.1 in
    rw (p.1, p.2) (λ ne. let q = c.in_err-last.ensures.err ne in
    (q.0, last_bad _ _ _ c.loop-first.invariant.1 c.in_default.ensures q.1))

pub returns-clause-ok : goal.returns-clause-ok
returns-clause-ok c = rw c.in_ok-push-2.ensures.ok
    (last_good _ _ _ c.loop-first.invariant.1 _ c.in_default.ensures c.in_ok-last.ensures.ok)
