use Rattle.std.proofs.Common.{◌≡◌, ◌++◌, length}
use Rattle.std.specs.List.{list_any}
use Rattle.pide_mirror.specs.Places.{takes}
use Rattle.pide_mirror.specs.Tables.{as_report}
use Rattle.pide_mirror.proofs.Telling.{Commands, IsToldUpTo}
use Rattle.pide_mirror.proofs.places.told_to_each.Given as goal

abbrev pub invariant-commands : goal.invariant-commands
invariant-commands l = (front : Commands) × (l.commands ≡ front ++ l.rest)
    × IsToldUpTo (as_report l.told) front l.rest l.places
    × (l.taken ≡ list_any (λ pair. takes (as_report l.told) pair.1) front)

abbrev pub decreases-commands : goal.decreases-commands
decreases-commands l = length l.rest
