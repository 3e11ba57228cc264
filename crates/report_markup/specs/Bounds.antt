-- How far reports reach.
use Rattle.std.specs.Prelude.{◌≤◌, List, min, max}
use Rattle.std.specs.List.{AllByRecursion}
use Rattle.pide_base.specs.declared.range.Range.{Range}
use Rattle.report_markup.specs.declared.report.Report.{Report}
use Rattle.report_markup.specs.declared.bounds.Bounds.{Bounds}

-- no report begins before the bounds' first place or ends behind their reach
abbrev pub LieWithin : Bounds → List Report → Type 0
LieWithin bounds =
    AllByRecursion (λ r. (bounds.first ≤ r.range.start) × (r.range.stop ≤ bounds.reach))

-- the bounds of what lies within these, or in the range
abbrev pub joined_bounds : Bounds → Range → Bounds → Bounds
joined_bounds left range right = record {
  first = min (min left.first right.first) range.start;
  reach = max (max left.reach right.reach) range.stop;
}
