use Rattle.std.proofs.Common.{sym, subst}
use Rattle.nj_formula.specs.Meaning.{meaning}
use Rattle.nj_kernel.specs.Theorem.{assumed, shown}
use Rattle.proof_checks.specs.Answers.{Gives}
use Rattle.proof_checks.specs.Checks.{by_two}
use Rattle.proof_checks.specs.Fits.{FitsTwo}
use Rattle.proof_checks.specs.Kernel.{IsFit, Settles}
use Rattle.proof_checks.specs.Scopes.{remaining}
use Rattle.proof_checks.proofs.PremiseLemmas.{two_fit, two_gives}
use Rattle.proof_checks.proofs.SettleLemmas.{settles_runs}
use Rattle.proof_checks.proofs.conclusions.by_two.Goals as goal

-- the premises' theorems show the parts' goals, and so fit the rule
pub settle-requires : goal.settle-requires
settle-requires c =
    let p = c.args.p.now in
    let q = c.args.q.now in
    let g = meaning c.args.goal.now in
    let fits = subst (λ x. FitsTwo c.args.rule.now p.own q.own x (shown c.args.u.now) g) (sym c.requires.first)
    (subst (λ x. FitsTwo c.args.rule.now p.own q.own (meaning p.goal) x g) (sym c.requires.second) c.requires.fits) in
    subst (λ x. IsFit x c.answer.result) (sym c.fresh.ensures)
    (two_fit p.own q.own (assumed c.args.t.now) (assumed c.args.u.now) (shown c.args.t.now) (shown c.args.u.now) g c.answer.result c.args.rule.now fits c.answer.ensures)

pub returns-clause-gives : goal.returns-clause-gives
returns-clause-gives c =
    let p = c.args.p.now in
    let q = c.args.q.now in
    let g = meaning c.args.goal.now in
    let fits = subst (λ x. FitsTwo c.args.rule.now p.own q.own x (shown c.args.u.now) g) (sym c.requires.first)
    (subst (λ x. FitsTwo c.args.rule.now p.own q.own (meaning p.goal) x g) (sym c.requires.second) c.requires.fits) in
    let settled = subst (λ x. Settles x c.answer.result c.settle.result) c.fresh.ensures c.settle.ensures in
    λ s t l m. subst (λ x. Gives c.settle.result (by_two c.args.rule.now x g (remaining p.own s) (remaining q.own t)) g) c.requires.first
    (two_gives p.own q.own (assumed c.args.t.now) (assumed c.args.u.now) (shown c.args.t.now) (shown c.args.u.now) g c.answer.result c.args.rule.now c.settle.result s t fits c.answer.ensures settled l m)

pub returns-clause-runs : goal.returns-clause-runs
returns-clause-runs c = settles_runs _ c.answer.result c.settle.result c.settle.ensures
