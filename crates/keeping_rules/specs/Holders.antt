-- Who holds parts (this project's own).
use Rattle.std.specs.Prelude.{ℕ, ◌==◌, not, List, [], ◌∷◌, filter}
use Rattle.core_rules.specs.declared.event.Event.{Event}
use Rattle.core_rules.specs.declared.event.Event.TheVariants.{Claimed, Finished, Dropped}

-- all but one
abbrev pub without : ℕ → List ℕ → List ℕ
without who workers = filter (λ w. not (w == who)) workers

-- the workers that hold a part, after these events
abbrev pub holders : List Event → List ℕ
holders [] = []
holders (Claimed who part ∷ h) = who ∷ holders h
holders (Finished who part ∷ h) = without who (holders h)
holders (Dropped who part ∷ h) = without who (holders h)
holders (e ∷ h) = holders h
