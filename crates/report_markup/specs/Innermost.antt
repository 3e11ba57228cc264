-- The innermost report around a place.
use Rattle.std.specs.Prelude.{ℕ, nat_lt, Bool, false, ◌&&◌, ◌||◌, Option, Some, None}
use Rattle.std.specs.Prelude.{List, [], ◌∷◌, if◌then◌else◌}
use Rattle.std.specs.Option.{option_or}
use Rattle.pide_base.specs.declared.range.Range.{Range}
use Rattle.report_markup.specs.declared.report.Report.{Report}

-- the range begins before the place and ends behind it
abbrev pub surrounds : ℕ → Range → Bool
surrounds place range = nat_lt range.start place && nat_lt place range.stop

-- the range of the last report around the place
abbrev pub innermost : ℕ → List Report → Option Range
innermost place [] = None
innermost place (r ∷ more) =
    option_or (innermost place more) (if surrounds place r.range then Some r.range else None)

-- the range ends before the place
abbrev pub ends_before : Option Range → ℕ → Bool
ends_before None place = false
ends_before (Some range) place = nat_lt range.stop place

-- the range begins behind the place
abbrev pub begins_behind : Option Range → ℕ → Bool
begins_behind None place = false
begins_behind (Some range) place = nat_lt place range.start

-- the innermost reports around the range's two ends tell that it may cross one
abbrev pub may_cross : Range → List Report → Bool
may_cross range reports = ends_before (innermost range.start reports) range.stop
    || begins_behind (innermost range.stop reports) range.start
