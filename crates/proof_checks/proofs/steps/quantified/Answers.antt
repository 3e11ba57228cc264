use Rattle.proof_checks.proofs.FormLemmas.{after_quantified}
use Rattle.proof_checks.proofs.StepLemmas.{of_AllI, of_AllE, of_ExI, of_ExE}
use Rattle.proof_checks.proofs.steps.quantified.Goals as goal

pub returns-in-AllI : goal.returns-in-AllI
returns-in-AllI c = of_AllI c.args.term.now c.args.goal.now c.all_i.result c.in-AllI.x c.in-AllI.t c.in-AllI.is c.all_i.ensures

pub returns-in-AllE : goal.returns-in-AllE
returns-in-AllE c = of_AllE c.args.term.now c.args.goal.now c.all_e.result c.in-AllE.quoted c.in-AllE.s c.in-AllE.t c.get.result.now c.in-AllE.is c.get.ensures c.all_e.ensures

pub returns-in-ExI : goal.returns-in-ExI
returns-in-ExI c = of_ExI c.args.term.now c.args.goal.now c.ex_i.result c.in-ExI.s c.in-ExI.t c.in-ExI.is c.ex_i.ensures

pub returns-in-ExE : goal.returns-in-ExE
returns-in-ExE c = of_ExE c.args.term.now c.args.goal.now c.ex_e.result c.in-ExE.quoted c.in-ExE.x c.in-ExE.h c.in-ExE.t c.in-ExE.u c.get-in-ExE.result.now c.in-ExE.is c.get-in-ExE.ensures c.ex_e.ensures

pub unreachable-requires : goal.unreachable-requires
unreachable-requires c = after_quantified c.args.term.now c.requires c.in_default.not-AllI c.in_default.not-AllE c.in_default.not-ExI c.in_default.not-ExE

pub unreachable-unreachable : goal.unreachable-unreachable
unreachable-unreachable c = after_quantified c.args.term.now c.requires c.in_default.not-AllI c.in_default.not-AllE c.in_default.not-ExI c.in_default.not-ExE
