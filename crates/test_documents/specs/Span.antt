-- A cut of numbers: those from one on and below another.
use Rattle.std.specs.Prelude.{◌≡◌, ℕ, cond, nat_lt}
use Rattle.std.proofs.Common.{arith}
use Rattle.std.proofs.lemmas.Bool.Decides.{nat_tests}
use Rattle.std.specs.declared.cmp.Ordering.{Ordering}
use Rattle.std.specs.declared.cmp.Ordering.TheVariants.{Less, Equal, Greater}
use Rattle.std.specs.Ordering.{nat_cmp}
use Rattle.shared_map.specs.Cuts.{IsCut}

-- where a number lies to the span
abbrev pub to_span : ℕ → ℕ → ℕ → Ordering
to_span from to key = cond (nat_lt key from) Less (cond (nat_lt key to) Equal Greater)

before_span : (from to key other : ℕ) → nat_cmp key other ≡ Less → to_span from to other ≡ Less
    → to_span from to key ≡ Less
before_span from to key other rise less = grind (arith, nat_tests)

behind_span : (from to key other : ℕ) → nat_cmp key other ≡ Less → to_span from to key ≡ Greater
    → to_span from to other ≡ Greater
behind_span from to key other rise greater = grind (arith, nat_tests)

pub is_cut-to_span : (from to : ℕ) → IsCut nat_cmp (to_span from to)
is_cut-to_span from to = record { before = before_span from to; behind = behind_span from to }
