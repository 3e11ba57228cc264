use Rattle.core_tables.proofs.waiters.Waiters.put_link.Goals as goal

pub returns-clause-link : goal.returns-clause-link
returns-clause-link c e n = c.in-Ok.ensures.updates.0 (record { input = e; number = n })
