use Rattle.pide_build.specs.Cutting.{cut_all}
use Rattle.pide_build.proofs.AllBatches.{AreDone}
use Rattle.pide_build.proofs.building.build.Given as goal

-- the batches so far are done
abbrev pub invariant-batches : goal.invariant-batches
invariant-batches g l = AreDone g.L.Language.lang g.T.Telling.told (cut_all l.nodes) l.batch-items l.batch-index l.kept l.taken.items
