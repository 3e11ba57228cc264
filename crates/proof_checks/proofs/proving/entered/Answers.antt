use Rattle.std.proofs.Common.{rules, arith}
use Rattle.proof_terms.specs.declared.term.Term.{out-Term}
use Rattle.proof_checks.specs.Rows.{step_of}
use Rattle.proof_checks.proofs.EnterLemmas.{too_deep, plans_asks, enters_within, plans_fit, rule_enters}
use Rattle.proof_checks.proofs.proving.entered.Goals as goal

pub returns-clause-plans : goal.returns-clause-plans
returns-clause-plans g c = rule_enters c.args.left c.args.term.now c.args.goal.now c.step_of.result c.step_of.ensures (omega arith)

pub returns-clause-asked : goal.returns-clause-asked
returns-clause-asked g c = plans_asks c.step_of.result (step_of (out-Term c.args.term.now) c.args.goal.now) _ _ c.step_of.ensures (search rules)

pub returns-clause-deep : goal.returns-clause-deep
returns-clause-deep g c =
    enters_within c.args.left (out-Term c.args.term.now) c.args.goal.now c.step_of.result
    (rule_enters c.args.left c.args.term.now c.args.goal.now c.step_of.result c.step_of.ensures (omega arith))

pub returns-clause-fits : goal.returns-clause-fits
returns-clause-fits g c = plans_fit (out-Term c.args.term.now) c.args.goal.now c.step_of.result c.step_of.ensures

pub returns-then-left-eq0-clause-plans : goal.returns-then-left-eq0-clause-plans
returns-then-left-eq0-clause-plans g c = too_deep c.args.left c.args.term.now c.args.goal.now (omega arith) c.requires
