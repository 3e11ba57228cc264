-- A body can be built from its marks.
use Rattle.yxml.proofs.KnownBuilding.{balanced-marks}
use Rattle.yxml.proofs.KnownRebuilt.{same_from_marks, rebuilt}
use Rattle.yxml.proofs.tree_laws.marks_tell_the_body.Goals as goal

pub returns-clause-one : goal.returns-clause-one
returns-clause-one c = same_from_marks

pub returns-clause-made : goal.returns-clause-made
returns-clause-made c = rebuilt

pub returns-clause-balanced : goal.returns-clause-balanced
returns-clause-balanced c = balanced-marks
