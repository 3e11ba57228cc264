-- One worker that always takes the first ready part, and finishes it at once (this project's own).
use Rattle.std.specs.Prelude.{◌≡◌, ℕ, zero, suc, List, ◌∷◌, Option, Some, None}
use Rattle.pide_base.specs.declared.part.Part.{Part}
use Rattle.language.specs.Lang.{Lang}
use Rattle.core_rules.specs.declared.event.Event.{Event}
use Rattle.core_rules.specs.declared.event.Event.TheVariants.{Claimed, Finished}
use Rattle.core_rules.specs.Ready.{first_ready}

-- the worker takes the part, where there is one, and finishes it
abbrev pub finished_by : ℕ → List Event → Option Part → List Event
finished_by who h None = h
finished_by who h (Some p) = Finished who p ∷ Claimed who p ∷ h

-- the worker takes the first ready part
abbrev pub work : {S : Type 0} → Lang S → ℕ → List Event → List Event
work l who h = finished_by who h (first_ready l h)

-- it does so n times
abbrev pub alone : {S : Type 0} → Lang S → ℕ → ℕ → List Event → List Event
alone l who zero h = h
alone l who (suc n) h = work l who (alone l who n h)

-- the list is h, and then n parts that the worker took and finished at once
abbrev pub IsAlone : ℕ → List Event → ℕ → List Event → Type 0
IsAlone who h zero k = k ≡ h
IsAlone who h (suc n) k = (p : Part) × (m : List Event) × (k ≡ Finished who p ∷ Claimed who p ∷ m)
    × IsAlone who h n m
