-- What changes of a map make of its pairs (this project's own).
use Rattle.std.specs.Prelude.{List, [], ◌∷◌, ◌++◌}
use Rattle.std.specs.declared.cmp.Ordering.{Ordering}
use Rattle.shared_map.specs.Cuts.{before, behind, at_key}

-- the pairs of smaller keys, this pair, and those of greater keys
abbrev pub put : {K V : Type 0} → (K → K → Ordering) → K × V → List (K × V) → List (K × V)
put cmp pair pairs = before (at_key cmp pair.0) pairs ++ pair ∷ behind (at_key cmp pair.0) pairs

-- the pairs of smaller keys, and those of greater keys
abbrev pub without : {K V : Type 0} → (K → K → Ordering) → K → List (K × V) → List (K × V)
without cmp key pairs = before (at_key cmp key) pairs ++ behind (at_key cmp key) pairs

-- the pairs of both by their keys; where both have a key, the first's: it cuts the second
abbrev pub united : {K V : Type 0} → (K → K → Ordering) → List (K × V) → List (K × V) → List (K × V)
united cmp [] others = others
united cmp (pair ∷ pairs) others =
    before (at_key cmp pair.0) others ++ pair ∷ united cmp pairs (behind (at_key cmp pair.0) others)
