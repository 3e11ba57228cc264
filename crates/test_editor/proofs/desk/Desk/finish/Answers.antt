use Rattle.std.proofs.Common.{sym, ap, subst, ◌∙◌, ℕ, Some}
use Rattle.core_jobs.specs.declared.done.Done.{Done}
use Rattle.core_jobs.specs.Fits.{IsDoneOf}
use Rattle.core_rules.specs.declared.event.Event.TheVariants.{Finished, Dropped}
use Rattle.core_rules.specs.Doc.{doc}
use Rattle.test_editor.specs.Tally.{counting}
use Rattle.test_editor.proofs.Moved.{later, let_go, ended}
use Rattle.test_editor.proofs.desk.Desk.finish.Goals as goal

pub invariant_of-self : goal.invariant_of-self
invariant_of-self c = let_go counting _ _ _ _ c.self.invariant c.args.who _ c.take_out.ensures.others

pub invariant_of-self-in-Stopped : goal.invariant_of-self-in-Stopped
invariant_of-self-in-Stopped c = let_go counting _ _ _ _ c.self.invariant c.args.who _ c.take_out.ensures.others

pub finish-requires-clause-holds : goal.finish-requires-clause-holds
finish-requires-clause-holds c = (c.self.invariant.holds c.args.who c.in-Some.job (sym c.in-Some.ensures.value)).part
    ∙ ap (λ (d : Done ℕ). Some d.part) (sym c.in-Done.ensures.ran)

pub finish-requires-clause-right : goal.finish-requires-clause-right
finish-requires-clause-right c = subst (IsDoneOf counting (doc counting c.self.inside.core.past).homes) (sym c.in-Done.ensures.ran)
    (c.job_law.ensures (doc counting c.self.inside.core.past).homes c.in-Some.job
    (c.self.invariant.holds c.args.who c.in-Some.job (sym c.in-Some.ensures.value)).right)

pub invariant_of-self-in-Finished : goal.invariant_of-self-in-Finished
invariant_of-self-in-Finished c = later counting _ _ _ _ _ c.in-Finished.ensures.finished.1
    (ended counting _ _ _ _ c.self.invariant c.args.who (Finished c.args.who c.in-Done.done.part) _ tt (λ w other. other) c.take_out.ensures.others)

pub invariant_of-self-in-Done : goal.invariant_of-self-in-Done
invariant_of-self-in-Done c = later counting _ _ _ _ _ c.in-Dropped.ensures.finished.1
    (ended counting _ _ _ _ c.self.invariant c.args.who (Dropped c.args.who c.in-Done.done.part) _ tt (λ w other. other) c.take_out.ensures.others)
