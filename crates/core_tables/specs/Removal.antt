-- What removing versions answers and leaves.
use Rattle.std.specs.Prelude.{ℕ, Bool, true, false, not, ◌==◌, List, find, filter, Option, Some, None}
use Rattle.std.specs.List.{list_any}
use Rattle.core_tables.specs.declared.versions.Live.{Live}
use Rattle.core_tables.specs.declared.versions.Removing.{Removing}
use Rattle.core_tables.specs.declared.versions.Removing.TheVariants as answer
use Rattle.core_tables.specs.Live.{is_live, is_tip}

-- an id that is not live is told first, then that the tip is named (this project's own)
abbrev pub answer_by : Option ℕ → Bool → Removing
answer_by (Some id) tip = answer.Unknown id
answer_by None true = answer.Tip
answer_by None false = answer.Removed

-- by the first id that is not live, and by whether the tip is among them
abbrev pub removing : {V : Type 0} → List (Live V) → List ℕ → Removing
removing lives ids =
    answer_by (find (λ id. not (is_live lives id)) ids) (list_any (λ id. is_tip lives id) ids)

-- the versions that are live then: all but these where they are removed, else all
abbrev pub left : {V : Type 0} → Removing → List ℕ → List (Live V) → List (Live V)
left answer.Removed ids lives = filter (λ live. not (list_any (λ id. id == live.id) ids)) lives
left refused ids lives = lives
