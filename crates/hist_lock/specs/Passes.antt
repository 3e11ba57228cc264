-- What a clause says of a pass, and of the seat that it carries.
use Rattle.std.specs.Prelude.{◌≡◌, Option}
use Rattle.atomic_table.specs.declared.shared.Seat.{Seat}
use Rattle.hist_lock.specs.declared.state.State.{Ghosts}
use Rattle.hist_lock.specs.declared.view.View.{View}
use Rattle.hist_lock.specs.declared.view.Doing.{Doing}
use Rattle.hist_lock.specs.declared.pass.Pass.{Pass}
use Rattle.hist_lock.specs.declared.shared.Shared.{Shared}

module _ {S E : Type 0} where
  -- it is a seat at this lock's table
  abbrev pub IsSeatOf : Shared S E → Seat (Option S) (Doing E) → Type 0
  IsSeatOf lock place = place.table_id ≡ lock.table.shared.table_id

  -- it is the same seat, whatever it knows and holds
  abbrev pub IsSameSeat : Seat (Option S) (Doing E) → Seat (Option S) (Doing E) → Type 0
  IsSameSeat old new = (new.table_id ≡ old.table_id) × (new.id ≡ old.id)

module _ {S E : Type 0} {g : Ghosts S E} where
  -- what the caller knows
  abbrev pub view : Pass S E g → View E
  view p = p.place.me.0.view

  -- it is a pass of this lock
  abbrev pub IsPassOf : Shared S E → Pass S E g → Type 0
  IsPassOf lock p = IsSeatOf lock p.place
