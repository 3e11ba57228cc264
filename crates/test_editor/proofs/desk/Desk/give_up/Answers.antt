use Rattle.std.proofs.Common.{sym, ◌∙◌}
use Rattle.core_rules.specs.declared.event.Event.TheVariants.{Dropped}
use Rattle.test_editor.specs.Tally.{counting}
use Rattle.test_editor.proofs.Moved.{later, let_go, ended, goes_on}
use Rattle.test_editor.proofs.desk.Desk.give_up.Goals as goal

pub invariant_of-self : goal.invariant_of-self
invariant_of-self c = let_go counting _ _ _ _ c.self.invariant c.args.who _ c.take_out.ensures.others

pub give_up-requires : goal.give_up-requires
give_up-requires c = record { holds = (c.self.invariant.holds c.args.who c.in-Some.job (sym c.in-Some.ensures.value)).part }

pub invariant_of-self-in-Dropped : goal.invariant_of-self-in-Dropped
invariant_of-self-in-Dropped c = later counting _ _ _ _ _ c.in-Dropped.ensures.given_up.1
    (ended counting _ _ _ _ c.self.invariant c.args.who (Dropped c.args.who c.in-Some.job.part) _ tt (λ w other. other) c.take_out.ensures.others)

pub invariant_of-self-in_err-put-in-GoOn : goal.invariant_of-self-in_err-put-in-GoOn
invariant_of-self-in_err-put-in-GoOn c = later counting _ _ _ _ _ c.in-GoOn.ensures.given_up.2
    (let_go counting _ _ _ _ c.self.invariant c.args.who _ (λ w. c.in_err-put-in-GoOn.ensures.err w ∙ c.take_out.ensures.others w))

pub invariant_of-self-in-GoOn : goal.invariant_of-self-in-GoOn
invariant_of-self-in-GoOn c = later counting _ _ _ _ _ c.in-GoOn.ensures.given_up.2
    (goes_on counting _ _ _ _ c.self.invariant c.args.who c.in-Some.job c.in-GoOn.job _ _
    (c.self.invariant.holds c.args.who c.in-Some.job (sym c.in-Some.ensures.value)) c.in-GoOn.ensures.given_up.1
    c.take_out.ensures.others c.in_ok-put-in-GoOn.ensures.ok)
