use Rattle.std.proofs.Common.{rules, ◌∙◌, refl, ap}
use Rattle.core_tables.specs.Tasks.{standing}
use Rattle.core_tables.proofs.KeptAlike.{kept_alike}
use Rattle.core_tables.proofs.queue.TaskQueue.reserve.Goals as goal

-- after each of the three calls the queue is as before, but for room
pub invariant_of-self : goal.invariant_of-self
invariant_of-self c = kept_alike c.self.inside _ c.self.invariant c.reserve.ensures.entries.2
    c.reserve.ensures.entries.1 (search rules) refl c.self.invariant.links (λ e f w. w)

pub invariant_of-self-in_err-reserve-2 : goal.invariant_of-self-in_err-reserve-2
invariant_of-self-in_err-reserve-2 c = kept_alike c.self.inside _ c.self.invariant c.reserve.ensures.entries.2
    c.reserve.ensures.entries.1 (search rules) refl (c.reserve-2.ensures.all c.self.invariant.links)
    c.reserve-2.ensures.same

pub returns-in_err-reserve-2-clause-tasks : goal.returns-in_err-reserve-2-clause-tasks
returns-in_err-reserve-2-clause-tasks c e = c.reserve.ensures.entries.2 e ∙ ap (λ q. standing q e) c.self.view_is

pub invariant_of-self-2 : goal.invariant_of-self-2
invariant_of-self-2 c = kept_alike c.self.inside _ c.self.invariant c.reserve.ensures.entries.2
    c.reserve.ensures.entries.1 (search rules) c.reserve-3.ensures.parts
    (c.reserve-2.ensures.all c.self.invariant.links) c.reserve-2.ensures.same

pub returns-clause-tasks : goal.returns-clause-tasks
returns-clause-tasks c e = c.reserve.ensures.entries.2 e ∙ ap (λ q. standing q e) c.self.view_is
