-- Where keys lie to a cut: before it, within it or behind it (this project's own).
use Rattle.std.specs.Prelude.{◌≡◌, List, filter}
use Rattle.std.specs.declared.cmp.Ordering.{Ordering}
use Rattle.std.specs.declared.cmp.Ordering.TheVariants.{Less, Greater}
use Rattle.std.specs.Ordering.{is_lt, is_eq, is_gt}

-- a greater key lies no earlier
pub record IsCut {K : Type 0} (cmp : K → K → Ordering) (place : K → Ordering) : Type 0 where
  pub before : (key other : K) → cmp key other ≡ Less → place other ≡ Less → place key ≡ Less
  pub behind : (key other : K) → cmp key other ≡ Less → place key ≡ Greater → place other ≡ Greater

-- the pairs whose keys lie before the cut
abbrev pub before : {K V : Type 0} → (K → Ordering) → List (K × V) → List (K × V)
before place = filter (λ pair. is_lt (place pair.0))

-- the pairs whose keys lie within the cut
abbrev pub within : {K V : Type 0} → (K → Ordering) → List (K × V) → List (K × V)
within place = filter (λ pair. is_eq (place pair.0))

-- the pairs whose keys lie behind the cut
abbrev pub behind : {K V : Type 0} → (K → Ordering) → List (K × V) → List (K × V)
behind place = filter (λ pair. is_gt (place pair.0))

-- the cut of one key
abbrev pub at_key : {K : Type 0} → (K → K → Ordering) → K → K → Ordering
at_key cmp key other = cmp other key
