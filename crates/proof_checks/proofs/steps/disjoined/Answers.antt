use Rattle.proof_checks.proofs.FormLemmas.{after_disjoined}
use Rattle.proof_checks.proofs.StepLemmas.{of_DisjI1, of_DisjI2, of_DisjE}
use Rattle.proof_checks.proofs.steps.disjoined.Goals as goal

pub returns-in-DisjI1 : goal.returns-in-DisjI1
returns-in-DisjI1 c = of_DisjI1 c.args.term.now c.args.goal.now c.disj_i1.result c.in-DisjI1.t c.in-DisjI1.is c.disj_i1.ensures

pub returns-in-DisjI2 : goal.returns-in-DisjI2
returns-in-DisjI2 c = of_DisjI2 c.args.term.now c.args.goal.now c.disj_i2.result c.in-DisjI2.t c.in-DisjI2.is c.disj_i2.ensures

pub returns-in-DisjE : goal.returns-in-DisjE
returns-in-DisjE c = of_DisjE c.args.term.now c.args.goal.now c.disj_e.result c.in-DisjE.a c.in-DisjE.b c.in-DisjE.t c.in-DisjE.x c.in-DisjE.u c.in-DisjE.y c.in-DisjE.v c.in-DisjE.is c.disj_e.ensures

pub implied-requires : goal.implied-requires
implied-requires c = after_disjoined c.args.term.now c.requires c.in_default.not-DisjI1 c.in_default.not-DisjI2 c.in_default.not-DisjE

pub returns-in_default : goal.returns-in_default
returns-in_default c = c.implied.ensures
