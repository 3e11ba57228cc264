use Rattle.std.proofs.Common.{subst, sym}
use Rattle.command_steps.specs.Tries.{Tries}
use Rattle.command_steps.specs.Ordered.{in_state, after_order}
use Rattle.command_steps.proofs.proving.in_state.Goals as goal

pub returns-in-Assume : goal.returns-in-Assume
returns-in-Assume c =
    let lemma = c.args.lemma.now in
    subst (λ s. Tries (after_order lemma.theory.now lemma.name.now lemma.goal.now c.args.proof.now (in_state lemma.theory.now.facts s)) c.assume_command.result)
    (sym c.in-Assume.is) c.assume_command.ensures

pub returns-in-Have : goal.returns-in-Have
returns-in-Have c =
    let lemma = c.args.lemma.now in
    subst (λ s. Tries (after_order lemma.theory.now lemma.name.now lemma.goal.now c.args.proof.now (in_state lemma.theory.now.facts s)) c.have_command.result)
    (sym c.in-Have.is) c.have_command.ensures
