use Rattle.std.proofs.Common.{sym, subst}
use Rattle.nj_formula.specs.Meaning.{meaning}
use Rattle.nj_kernel.specs.Theorem.{assumed, shown}
use Rattle.proof_checks.specs.Fits.{FitsOne}
use Rattle.proof_checks.specs.Kernel.{IsFit, Settles}
use Rattle.proof_checks.proofs.RuleLemmas.{one_fit, one_gives}
use Rattle.proof_checks.proofs.SettleLemmas.{settles_runs}
use Rattle.proof_checks.proofs.conclusions.by_one.Goals as goal

-- the premise's theorem shows the part's goal, and so fits the rule
pub settle-requires : goal.settle-requires
settle-requires c =
    let p = c.args.p.now in
    let g = meaning c.args.goal.now in
    let fits = subst (λ q. FitsOne c.args.rule.now p.own q g) (sym c.requires.shown) c.requires.fits in
    subst (λ x. IsFit x c.answer.result) (sym c.fresh.ensures)
    (one_fit p.own (assumed c.args.t.now) (shown c.args.t.now) g c.answer.result c.args.rule.now fits c.answer.ensures)

pub returns-clause-gives : goal.returns-clause-gives
returns-clause-gives c =
    let p = c.args.p.now in
    let g = meaning c.args.goal.now in
    let fits = subst (λ q. FitsOne c.args.rule.now p.own q g) (sym c.requires.shown) c.requires.fits in
    let settled = subst (λ x. Settles x c.answer.result c.settle.result) c.fresh.ensures c.settle.ensures in
    λ s l. one_gives p.own (assumed c.args.t.now) (shown c.args.t.now) g c.answer.result c.args.rule.now c.settle.result s fits c.answer.ensures settled l

pub returns-clause-runs : goal.returns-clause-runs
returns-clause-runs c = settles_runs _ c.answer.result c.settle.result c.settle.ensures
