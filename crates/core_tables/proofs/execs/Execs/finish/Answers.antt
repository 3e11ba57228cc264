use Rattle.core_tables.proofs.execs.Execs.finish.Goals as goal

pub returns-clause-finished : goal.returns-clause-finished
returns-clause-finished g c = rw (← c.self.view_is, ← c.number.ensures.value) c.finish_at.ensures.finished
