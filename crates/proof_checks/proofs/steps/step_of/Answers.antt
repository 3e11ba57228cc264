use Rattle.proof_checks.proofs.FormLemmas.{after_step_of}
use Rattle.proof_checks.proofs.StepLemmas.{of_Fact, of_ConjI, of_ConjE1, of_ConjE2}
use Rattle.proof_checks.proofs.steps.step_of.Goals as goal

pub returns-in-Fact : goal.returns-in-Fact
returns-in-Fact c = of_Fact c.args.term.now c.args.goal.now c.cited.result c.in-Fact.cite c.in-Fact.is c.cited.ensures

pub returns-in-ConjI : goal.returns-in-ConjI
returns-in-ConjI c = of_ConjI c.args.term.now c.args.goal.now c.conj_i.result c.in-ConjI.t c.in-ConjI.u c.in-ConjI.is c.conj_i.ensures

pub returns-in-ConjE1 : goal.returns-in-ConjE1
returns-in-ConjE1 c = of_ConjE1 c.args.term.now c.args.goal.now c.conj_e1.result c.in-ConjE1.b c.in-ConjE1.t c.in-ConjE1.is c.conj_e1.ensures

pub returns-in-ConjE2 : goal.returns-in-ConjE2
returns-in-ConjE2 c = of_ConjE2 c.args.term.now c.args.goal.now c.conj_e2.result c.in-ConjE2.a c.in-ConjE2.t c.in-ConjE2.is c.conj_e2.ensures

pub disjoined-requires : goal.disjoined-requires
disjoined-requires c = after_step_of c.args.term.now c.in_default.not-Fact c.in_default.not-ConjI c.in_default.not-ConjE1 c.in_default.not-ConjE2

pub returns-in_default : goal.returns-in_default
returns-in_default c = c.disjoined.ensures
