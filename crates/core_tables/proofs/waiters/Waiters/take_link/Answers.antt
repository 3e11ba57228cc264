use Rattle.core_tables.proofs.waiters.Waiters.take_link.Goals as goal

pub returns-clause-link : goal.returns-clause-link
returns-clause-link c e n = c.remove.ensures.updates.0 (record { input = e; number = n })
