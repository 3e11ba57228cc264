-- The name of the next assumption has no dot.
use Rattle.std.proofs.Common.{◌≡◌, ℕ, zero, suc, ◌+◌, ◌/◌, ◌%◌, ◌==◌, nat_lt, Bool, true, false, if◌then◌else◌, List, [], ◌∷◌, ◌++◌, replicate, codes, refl, ap, ◌∙◌, arith, ne_eqb}
use Rattle.std.specs.List.{AllByRecursion, onto_first}
use Rattle.std.specs.Fmt.{decimal, digits, digits_onto, digit_glyph}
use Rattle.std.proofs.lemmas.List.Splits.{slice_split-cons_no}
use Rattle.theory_ctx.specs.Looked.{name_parts}
use Rattle.suggest_rules.specs.declared.names.Names.{Names}
use Rattle.suggest_rules.specs.Names.{numbered, next_name}

abbrev HasNoDot : List ℕ → Type 0
HasNoDot name = AllByRecursion (λ c. (c == 46) ≡ false) name

one_part : (name : List ℕ) → HasNoDot name → name_parts name ≡ name ∷ []
one_part [] none = refl
one_part (c ∷ name) none = slice_split-cons_no (λ b. b == 46) c name none.0 ∙ ap (onto_first c) (one_part name none.1)

joined : (x y : List ℕ) → HasNoDot x → HasNoDot y → HasNoDot (x ++ y)
joined [] y left right = right
joined (c ∷ x) y left right = (left.0, joined x y left.1 right)

primes : (n : ℕ) → HasNoDot (replicate n 39)
primes zero = tt
primes (suc n) = (refl, primes n)

glyph : (d : ℕ) → (digit_glyph false d == 46) ≡ false
glyph d = go (nat_lt d 10)
  where
    go : (b : Bool) → ((if b then 48 + d else 87 + d) == 46) ≡ false
    go true = ne_eqb (48 + d) 46 (λ e. omega (arith, e))
    go false = ne_eqb (87 + d) 46 (λ e. omega (arith, e))

glyphs : (k n : ℕ) (acc : List ℕ) → HasNoDot acc → HasNoDot (digits_onto k 10 false n acc)
glyphs zero n acc none = none
glyphs (suc k) n acc none = go (glyphs k (n / 10) (digit_glyph false (n % 10) ∷ acc) (glyph (n % 10), none)) (n / 10 == 0)
  where
    go : HasNoDot (digits_onto k 10 false (n / 10) (digit_glyph false (n % 10) ∷ acc)) → (b : Bool) → HasNoDot (if b then digit_glyph false (n % 10) ∷ acc else digits_onto k 10 false (n / 10) (digit_glyph false (n % 10) ∷ acc))
    go more true = (glyph (n % 10), none)
    go more false = more

decimal-none : (n : ℕ) → HasNoDot (decimal n)
unfolding digits
decimal-none n = glyphs 64 n [] tt

pub next_name-part : (aliases : List (List ℕ)) (names : Names) → name_parts (next_name aliases names) ≡ next_name aliases names ∷ []
next_name-part aliases names =
    one_part (next_name aliases names)
    (joined (numbered names) _ (joined (codes "h") (decimal (names.own + 1)) (refl, tt) (decimal-none (names.own + 1))) (primes _))
