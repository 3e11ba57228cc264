-- What a removal of versions leaves (this project's own).
use Rattle.std.specs.Prelude.{ℕ, List, ◌∷◌}
use Rattle.core_tables.specs.declared.versions.Removing.{Removing}
use Rattle.core_tables.specs.declared.versions.Removing.TheVariants as answer
use Rattle.core_rules.specs.declared.event.Event.{Event}
use Rattle.core_rules.specs.declared.event.Event.TheVariants as event

-- all that has happened once versions were asked to be removed: an event more where they were
abbrev pub with_removal : List ℕ → Removing → List Event → List Event
with_removal ids answer.Removed past = event.Remove ids ∷ past
with_removal ids refused past = past
