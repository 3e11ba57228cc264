-- Ranges that are searched (this project's own).
use Rattle.std.specs.Prelude.{◌≡◌, ℕ, ◌<◌, List, [], ◌∷◌, max}
use Rattle.std.specs.List.{All}
use Rattle.std.specs.List.Sorted.{IsNonDecreasingBy}
use Rattle.pide_base.specs.declared.range.Range.{Range}
use Rattle.buffer_rules.specs.Cuts.{is_seen}

-- ranges of which none is empty, and of which each begins and ends no earlier than those before it
pub record AreSpread (ranges : List Range) : Type 0 where
  pub filled : All (λ r. r.start < r.stop) ranges
  pub starts : IsNonDecreasingBy (λ r. r.start) ranges
  pub stops : IsNonDecreasingBy (λ r. r.stop) ranges

-- the ranges, each made to end as far as those before it, and as this
abbrev pub spread : ℕ → List Range → List Range
spread reach [] = []
spread reach (r ∷ rs) =
    (record { start = r.start; stop = max reach r.stop }) ∷ spread (max reach r.stop) rs

-- the same is seen under both
abbrev pub ShowAlike : List Range → List Range → Type 0
ShowAlike one other = (range : Range) → is_seen one range ≡ is_seen other range
