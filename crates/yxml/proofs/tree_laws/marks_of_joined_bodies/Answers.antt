-- Both are collected tree by tree.
use Rattle.yxml.proofs.KnownMarks.{marks-append, height-append}
use Rattle.yxml.proofs.tree_laws.marks_of_joined_bodies.Goals as goal

pub returns-clause-marks : goal.returns-clause-marks
returns-clause-marks c = marks-append

pub returns-clause-height : goal.returns-clause-height
returns-clause-height c = height-append
