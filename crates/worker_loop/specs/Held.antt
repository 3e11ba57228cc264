-- What a caller holds, read off its own entries. The definitions of this crate are this project's
-- own.
use Rattle.std.specs.Prelude.{List, [], ◌∷◌, Option, None, Some}
use Rattle.pide_base.specs.declared.part.Part.{Part}
use Rattle.worker_loop.specs.declared.said.Said.{Said}
use Rattle.worker_loop.specs.declared.said.Said.TheVariants as said

-- the part held after an entry, by a caller that held this before
abbrev pub held_after : Option Part → Said → Option Part
held_after held (said.Claimed p) = Some p
held_after held (said.Finished p) = None
held_after held (said.Dropped p) = None
held_after held said.Sent = held
held_after held said.Lost = held
held_after held said.Ended = held
held_after held said.Other = held

module _ {E : Type 0} (says : E → Said) where
  -- the part held after these entries, oldest first, by a caller that held this before
  abbrev pub held_from : Option Part → List E → Option Part
  held_from held [] = held
  held_from held (e ∷ es) = held_from (held_after held (says e)) es

  -- the part that a caller holds, these being all its entries: the one that it claimed last, where
  -- it has neither finished nor dropped it since
  abbrev pub held_in : List E → Option Part
  held_in mine = held_from None mine
