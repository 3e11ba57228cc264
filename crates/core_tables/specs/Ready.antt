-- Which parts are ready, and in which order they are taken (this project's own).
use Rattle.std.specs.Prelude.{◌≡◌, ℕ, ◌==◌, ◌<◌, ◌≤◌, Bool, true, false, List, length, slice_index_or, Option, Some, AllPairs, if◌then◌else◌}
use Rattle.std.specs.List.{All, Contains}
use Rattle.std.specs.Option.{option_map_or}
use Rattle.pide_base.specs.declared.part.Part.{Part}
use Rattle.core_tables.specs.declared.priority.Priority.{Priority}
use Rattle.core_tables.specs.declared.priority.Priority.TheVariants as priority
use Rattle.core_tables.specs.declared.task.Standing.{Standing}
use Rattle.core_tables.specs.Order.{goes_before}
use Rattle.core_tables.specs.Tasks.{is_ready}

-- how the present part of each execution stands
abbrev pub Standings : Type 0
Standings = ℕ → Option Standing

-- the priority of the execution's present part
abbrev pub priority_of : Standings → ℕ → Priority
priority_of all e = option_map_or (λ s. s.priority) (all e) priority.Fork

-- the present part of the first execution is taken before that of the second
abbrev pub comes_first : Standings → ℕ → ℕ → Bool
comes_first all e f = goes_before (priority_of all e) e (priority_of all f) f

-- the part is the present one of its execution, and ready
abbrev pub IsReadyPart : Standings → Part → Type 0
IsReadyPart all part = (s : Standing) × (all part.exec ≡ Some s) × (s.kind ≡ part.kind)
    × (is_ready s ≡ true)

-- these are just the ready parts, and each is taken before those that stand before it
pub record AreReady (all : Standings) (parts : List Part) : Type 0 where
  pub sound : All (IsReadyPart all) parts
  pub complete : (part : Part) → IsReadyPart all part → Contains parts part
  pub order : AllPairs (λ p q. comes_first all q.exec p.exec ≡ true) parts

-- the standings with this at one execution
abbrev pub with_standing : Standings → ℕ → Option Standing → Standings
with_standing all e s f = if e == f then s else all f

-- the part is ready, and no other ready part is taken before it
pub record IsNext (all : Standings) (part : Part) : Type 0 where
  pub ready : IsReadyPart all part
  pub first : (other : Part) → IsReadyPart all other → comes_first all other.exec part.exec ≡ false

-- a part of this priority and execution belongs at place i: those before it are taken after it, and
-- those from there on are not
pub record IsPlaceFor (all : Standings) (p : Priority) (e : ℕ) (parts : List Part) (i : ℕ)
    : Type 0 where
  pub within : i ≤ length parts
  pub later : (j : ℕ) (d : Part) → j < i
      → let f = (slice_index_or parts j d).exec in goes_before p e (priority_of all f) f ≡ true
  pub sooner : (j : ℕ) (d : Part) → i ≤ j → j < length parts
      → let f = (slice_index_or parts j d).exec in goes_before p e (priority_of all f) f ≡ false
