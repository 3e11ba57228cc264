use Rattle.std.proofs.Common.{ap, ◌∙◌, Some}
use Rattle.exec_rules.specs.declared.home.Input.TheVariants.{Next}
use Rattle.exec_assign.proofs.HomeLemmas.{taken_next}
use Rattle.exec_assign.proofs.homes.taken_up.Goals as goal

pub returns-in-Some : goal.returns-in-Some
returns-in-Some c =
    let before = c.in-Some.ensures in
    ap (λ v. Some (Next v)) c.index-evaluations-before.is
    ∙ taken_next c.args.head.now c.args.evaluations.now c.args.place c.in-Some.before c.index-evaluations-before.result c.requires before.0 before.1
