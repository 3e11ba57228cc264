use Rattle.test_editor.specs.Tally.{counting}
use Rattle.test_editor.proofs.Moved.{later, taken, lost}
use Rattle.test_editor.proofs.desk.Desk.claim.Goals as goal

pub invariant_of-self : goal.invariant_of-self
invariant_of-self c = later counting _ _ _ _ _ c.in-Nothing.ensures.claimed.1 c.self.invariant

pub invariant_of-self-in-NoMemory : goal.invariant_of-self-in-NoMemory
invariant_of-self-in-NoMemory c = later counting _ _ _ _ _ c.in-NoMemory.ensures.claimed c.self.invariant

pub invariant_of-self-in_err-put-in-Job : goal.invariant_of-self-in_err-put-in-Job
invariant_of-self-in_err-put-in-Job c =
    let so = c.in-Job.ensures.claimed in
    later counting _ _ _ _ _ so.4
    (lost counting _ _ _ _ c.self.invariant c.args.who c.in-Job.job.part _ so.0 c.in_err-put-in-Job.ensures.err)

pub invariant_of-self-in-Job : goal.invariant_of-self-in-Job
invariant_of-self-in-Job c =
    let so = c.in-Job.ensures.claimed in
    later counting _ _ _ _ _ so.4
    (taken counting _ _ _ _ c.self.invariant c.args.who c.in-Job.job _ so.3 c.in_ok-put-in-Job.ensures.ok)
