-- Ranges that can't stand in one tree, and ranges that contain others.
use Rattle.std.specs.Prelude.{nat_lt, nat_le, Bool, ◌&&◌, ◌||◌, Option, List, find, option_map}
use Rattle.pide_base.specs.declared.range.Range.{Range}
use Rattle.report_markup.specs.declared.report.Report.{Report}

-- each range begins or ends within the other: they are neither equal, nor nested, nor disjoint
-- (`crossing_law`)
abbrev pub crosses : Range → Range → Bool
crosses r s =
    (nat_lt r.start s.start && nat_lt s.start r.stop && nat_lt r.stop s.stop)
    || (nat_lt s.start r.start && nat_lt r.start s.stop && nat_lt s.stop r.stop)

-- the range of the first report that the range crosses
abbrev pub first_crossing : Range → List Report → Option Range
first_crossing range reports =
    option_map (λ r. r.range) (find (λ r. crosses range r.range) reports)

-- the report's range contains the range
abbrev pub contains : Range → Report → Bool
contains range r = nat_le r.range.start range.start && nat_le range.stop r.range.stop
