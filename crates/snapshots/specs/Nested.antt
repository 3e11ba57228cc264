-- Parts whose reports a markup tree can have.
use Rattle.std.specs.Prelude.{◌≡◌, ◌+◌, ◌≤◌, ◌⊎◌, List}
use Rattle.std.specs.List.{AllByRecursion}
use Rattle.report_markup.specs.Ranges.{AreTreelike}
use Rattle.snapshots.specs.declared.part.AssignedPart.{AssignedPart}
use Rattle.snapshots.specs.Gathered.{reported}

-- the reports lie in the command's source
abbrev pub LieInside : AssignedPart → Type 0
LieInside p =
    AllByRecursion (λ r. p.span.start + r.range.stop ≤ p.span.stop) (reported p.reports)

-- any report of the one part and any of the other are equal in range, nested or disjoint
abbrev pub Agree : AssignedPart → AssignedPart → Type 0
Agree p q =
    AllByRecursion (λ a. AllByRecursion (λ b. AreTreelike a.range b.range) (reported q.reports))
    (reported p.reports)

-- the spans of the parts are disjoint, or they are of one command, whose reports agree
abbrev pub StandSo : AssignedPart → AssignedPart → Type 0
StandSo p q = (p.span.stop ≤ q.span.start)
    ⊎ ((q.span.stop ≤ p.span.start) ⊎ ((p.span ≡ q.span) × Agree p q))

-- the parts of a node: reports lie in their commands, and commands don't overlap
pub record AreNested (parts : List AssignedPart) : Type 0 where
  pub inside : AllByRecursion LieInside parts
  pub so : AllByRecursion (λ p. AllByRecursion (StandSo p) parts) parts
