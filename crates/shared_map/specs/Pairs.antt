-- A map as the list of its pairs of a key and a value.
use Rattle.std.specs.Prelude.{◌≡◌, Bool, List, [], ◌∷◌, find, Option, option_map}
use Rattle.std.specs.declared.cmp.Ordering.{Ordering}
use Rattle.std.specs.declared.cmp.Ordering.TheVariants.{Less}
use Rattle.std.specs.Ordering.{is_eq}

-- each item has P
abbrev pub Each : {X : Type 0} → (X → Type 0) → List X → Type 0
Each P [] = Unit {0}
Each P (x ∷ xs) = P x × Each P xs

-- the keys rise, so that no key comes twice
abbrev pub IsSorted : {K V : Type 0} → (K → K → Ordering) → List (K × V) → Type 0
IsSorted cmp [] = Unit {0}
IsSorted cmp (pair ∷ pairs) = Each (λ other. cmp pair.0 other.0 ≡ Less) pairs × IsSorted cmp pairs

-- the pair has the key
abbrev pub has_key : {K V : Type 0} → (K → K → Ordering) → K → K × V → Bool
has_key cmp key pair = is_eq (cmp pair.0 key)

-- the value at a key
abbrev pub found : {K V : Type 0} → (K → K → Ordering) → K → List (K × V) → Option V
found cmp key pairs = option_map (λ pair. pair.1) (find (has_key cmp key) pairs)
