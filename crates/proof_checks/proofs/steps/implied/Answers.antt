use Rattle.proof_checks.proofs.FormLemmas.{after_implied}
use Rattle.proof_checks.proofs.StepLemmas.{of_ImpI, of_ImpE, of_NotI, of_NotE, of_FalseE}
use Rattle.proof_checks.proofs.steps.implied.Goals as goal

pub returns-in-ImpI : goal.returns-in-ImpI
returns-in-ImpI c = of_ImpI c.args.term.now c.args.goal.now c.imp_i.result c.in-ImpI.x c.in-ImpI.t c.in-ImpI.is c.imp_i.ensures

pub returns-in-ImpE : goal.returns-in-ImpE
returns-in-ImpE c = of_ImpE c.args.term.now c.args.goal.now c.imp_e.result c.in-ImpE.a c.in-ImpE.t c.in-ImpE.u c.in-ImpE.is c.imp_e.ensures

pub returns-in-NotI : goal.returns-in-NotI
returns-in-NotI c = of_NotI c.args.term.now c.args.goal.now c.not_i.result c.in-NotI.x c.in-NotI.t c.in-NotI.is c.not_i.ensures

pub returns-in-NotE : goal.returns-in-NotE
returns-in-NotE c = of_NotE c.args.term.now c.args.goal.now c.not_e.result c.in-NotE.a c.in-NotE.t c.in-NotE.u c.in-NotE.is c.not_e.ensures

pub returns-in-FalseE : goal.returns-in-FalseE
returns-in-FalseE c = of_FalseE c.args.term.now c.args.goal.now c.false_e.result c.in-FalseE.t c.in-FalseE.is c.false_e.ensures

pub quantified-requires : goal.quantified-requires
quantified-requires c = after_implied c.args.term.now c.requires c.in_default.not-ImpI c.in_default.not-ImpE c.in_default.not-NotI c.in_default.not-NotE c.in_default.not-FalseE

pub returns-in_default : goal.returns-in_default
returns-in_default c = c.quantified.ensures
