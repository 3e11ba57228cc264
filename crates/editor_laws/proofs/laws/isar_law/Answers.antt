use Rattle.editor_laws.proofs.laws.isar_law.Goals as goal

pub returns : goal.returns
returns c = record { told = c.told_law.ensures; fits = c.plain_law.ensures.fits }
