use Rattle.std.proofs.Common.{◌≡◌, length}
use Rattle.std.specs.List.{list_all}
use Rattle.doc_nodes.specs.Looks.{aims_at, met_by}
use Rattle.pide_build.proofs.fitting.fits.Given as goal

-- those that were looked at are met
abbrev pub invariant-aims : goal.invariant-aims
invariant-aims l = list_all (met_by l.marks) (aims_at l.graph.aims l.place) ≡ list_all (met_by l.marks) l.rest

abbrev pub decreases-aims : goal.decreases-aims
decreases-aims l = length l.rest
