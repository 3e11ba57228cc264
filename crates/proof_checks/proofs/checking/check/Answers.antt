use Rattle.std.proofs.Common.{subst}
use Rattle.nj_formula.specs.Meaning.{meaning}
use Rattle.theory_ctx.specs.Locals.{seen}
use Rattle.proof_checks.specs.Answers.{Gives, Answers}
use Rattle.proof_terms.specs.Reading.{deepest}
use Rattle.proof_checks.specs.Checks.{checked, checked_within}
use Rattle.proof_checks.specs.Questions.{judged_within, AskedEach}
use Rattle.proof_checks.proofs.ToldLemmas.{told_answers, told_counts, told_stands}
use Rattle.proof_checks.proofs.QuestionLemmas.{told_asks}
use Rattle.proof_checks.proofs.checking.check.Goals as goal

pub returns-clause-answer : goal.returns-clause-answer
returns-clause-answer g c =
    let t = c.args.term.now in
    let f = c.args.goal.now in
    let here = subst (λ n. Gives c.proved.result (checked_within n t f (seen c.inner-within.result)) (meaning f)) c.deepest.ensures c.proved.ensures.gives in
    told_answers c.proved.result c.told.result (checked t f c.args.scope.now) (meaning f) c.told.ensures
    (subst (λ s. Gives c.proved.result (checked_within deepest t f (seen s)) (meaning f)) c.inner-within.ensures here)

pub returns-clause-assumes : goal.returns-clause-assumes
returns-clause-assumes g c =
    let t = c.args.term.now in
    let f = c.args.goal.now in
    let here = subst (λ n. Gives c.proved.result (checked_within n t f (seen c.inner-within.result)) (meaning f)) c.deepest.ensures c.proved.ensures.gives in
    let answer : Answers c.told.result (checked t f c.args.scope.now) (meaning f) =
    told_answers c.proved.result c.told.result (checked t f c.args.scope.now) (meaning f) c.told.ensures
    (subst (λ s. Gives c.proved.result (checked_within deepest t f (seen s)) (meaning f)) c.inner-within.ensures here) in
    told_stands deepest t f c.args.scope.now c.told.result answer

pub returns-clause-counts : goal.returns-clause-counts
returns-clause-counts g c = told_counts c.proved.result c.told.result _ _ c.told.ensures c.proved.ensures.asked

pub returns-clause-asks : goal.returns-clause-asks
returns-clause-asks g c =
    let t = c.args.term.now in
    let f = c.args.goal.now in
    let before = g.P.Stop.questions c.args.stop.now in
    let now = g.P.Stop.questions c.proved.new.stop in
    let here = subst (λ n. AskedEach c.proved.result (judged_within n t f (seen c.inner-within.result)) before now) c.deepest.ensures c.proved.ensures.asks in
    told_asks c.proved.result c.told.result (judged_within deepest t f c.args.scope.now) before now c.told.ensures
    (subst (λ s. AskedEach c.proved.result (judged_within deepest t f (seen s)) before now) c.inner-within.ensures here)
