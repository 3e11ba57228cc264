-- Names as lists of numbers: bytes, or scalars in ASCII.
use Rattle.std.specs.Prelude.{ℕ, Bool, List}
use Rattle.std.specs.Ordering.{nat_cmp, is_eq}
use Rattle.std.specs.Cmp.Lexicographic.{slice_cmp}
use Rattle.std.specs.declared.cmp.Ordering.{Ordering}

-- the order of names: the first number that differs decides, and else the length
abbrev pub in_order : List ℕ → List ℕ → Ordering
in_order = slice_cmp nat_cmp

-- both are the same name
abbrev pub equal : List ℕ → List ℕ → Bool
equal name other = is_eq (in_order name other)
