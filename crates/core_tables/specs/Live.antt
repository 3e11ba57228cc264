-- The live versions as a list, oldest first.
use Rattle.std.specs.Prelude.{ℕ, ◌-◌, Bool, false, ◌==◌, List, length, slice_get, find, Option, is_some}
use Rattle.std.specs.Option.{option_map, option_map_or}
use Rattle.core_tables.specs.declared.versions.Live.{Live}

-- what contracts see: the version before any update, the live ones, and how many more fit
-- without memory
pub record History (V : Type 0) : Type 0 where
  pub start : V
  pub live : List (Live V)
  pub room : ℕ

-- the live version of this id
abbrev pub version_of : {V : Type 0} → List (Live V) → ℕ → Option V
version_of lives id = option_map (λ live. live.version) (find (λ live. live.id == id) lives)

-- a version of this id is live
abbrev pub is_live : {V : Type 0} → List (Live V) → ℕ → Bool
is_live lives id = is_some (version_of lives id)

-- the version that was pushed last, which is never removed
abbrev pub newest : {V : Type 0} → List (Live V) → Option (Live V)
newest lives = slice_get lives (length lives - 1)

-- the tip: the newest version, or the start before any was pushed
abbrev pub tip_of : {V : Type 0} → History V → V
tip_of history = option_map_or (λ live. live.version) (newest history.live) history.start

-- the tip's id, which the start has not
abbrev pub tip_id : {V : Type 0} → List (Live V) → Option ℕ
tip_id lives = option_map (λ live. live.id) (newest lives)

-- the tip has this id
abbrev pub is_tip : {V : Type 0} → List (Live V) → ℕ → Bool
is_tip lives id = option_map_or (λ tip. id == tip) (tip_id lives) false
