-- What a tree means: the list of its reports.
use Rattle.std.specs.Prelude.{List, [], ◌∷◌, ◌++◌, Option, Some, None}
use Rattle.std.specs.Arc.{arc_value}
use Rattle.std.specs.declared.sync.Arc.{Arc}
use Rattle.report_markup.specs.declared.report.Report.{Report}
use Rattle.report_markup.specs.declared.tree.Fork.{Fork}
use Rattle.report_markup.specs.Bounds.{LieWithin}

-- the reports of a fork from left to right
abbrev pub reports_of : Fork → List Report
reports_of fork = fork.left ++ arc_value fork.report ∷ fork.right

-- the reports of a tree
abbrev pub reports_in : {Z : Type 0} → Option (Arc Fork Z) → List Report
reports_in None = []
reports_in (Some fork) = reports_of (arc_value fork)

-- a fork tells how far its reports reach
abbrev pub IsBounded : {Z : Type 0} → Option (Arc Fork Z) → Type 0
IsBounded None = Unit {0}
IsBounded (Some fork) = LieWithin (arc_value fork).bounds (reports_of (arc_value fork))
