-- Who works on what, after a list of events, the newest first (this project's own).
use Rattle.std.specs.Prelude.{ℕ, ◌==◌, Bool, true, false, not, if◌then◌else◌, List, [], ◌∷◌, Option, Some, None}
use Rattle.std.specs.List.{list_any}
use Rattle.pide_base.specs.declared.part.Part.{Part}
use Rattle.exec_rules.specs.declared.home.Home.{Home}
use Rattle.language.specs.Lang.{Lang}
use Rattle.core_rules.specs.declared.event.Event.{Event}
use Rattle.core_rules.specs.declared.event.Event.TheVariants.{Claimed, Finished, Dropped, Ended}
use Rattle.core_rules.specs.Parts.{same_part, parts_of}

-- how a part stands: nobody works on it, a worker holds it, or it is finished
pub data Standing : Type 0 where
  Free : Standing
  Held : ℕ → Standing
  Done : Standing

-- by one event more
abbrev pub standing_by : Event → Part → Standing → Standing
standing_by (Claimed who q) p s = if same_part q p then Held who else s
standing_by (Finished who q) p s = if same_part q p then Done else s
standing_by (Dropped who q) p s = if same_part q p then Free else s
standing_by e p s = s

-- how the part stands: by the newest event that names it
abbrev pub standing : List Event → Part → Standing
standing [] p = Free
standing (e ∷ h) p = standing_by e p (standing h p)

-- it is finished
abbrev pub is_done : Standing → Bool
is_done Done = true
is_done s = false

-- nobody works on it, and it is not finished
abbrev pub is_unclaimed : Standing → Bool
is_unclaimed Free = true
is_unclaimed s = false

-- the part is finished
abbrev pub is_finished : List Event → Part → Bool
is_finished h p = is_done (standing h p)

-- what a worker holds, by one event more
abbrev pub held_by : Event → ℕ → Option Part → Option Part
held_by (Claimed who p) w o = if who == w then Some p else o
held_by (Finished who p) w o = if who == w then None else o
held_by (Dropped who p) w o = if who == w then None else o
held_by e w o = o

-- the part that a worker holds: by its own newest event
abbrev pub held : List Event → ℕ → Option Part
held [] w = None
held (e ∷ h) w = held_by e w (held h w)

-- an execution has an unfinished part
abbrev pub is_open : {S : Type 0} → Lang S → List Event → List Home → ℕ → Bool
is_open l h homes e = list_any (λ p. not (is_finished h p)) (parts_of l homes e)

-- the event is the end
abbrev pub is_end : Event → Bool
is_end Ended = true
is_end e = false

-- nothing is taken any more
abbrev pub has_ended : List Event → Bool
has_ended h = list_any is_end h
