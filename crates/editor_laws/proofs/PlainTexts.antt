-- Texts in ASCII that don't mark up: how they are joined, and which words are such.
use Rattle.std.proofs.Common.{◌≡◌, ℕ, zero, suc, ◌+◌, ◌/◌, ◌%◌, ◌<◌, ◌==◌, ◌&&◌, nat_lt, Bool, true}
use Rattle.std.proofs.Common.{false, not, if◌then◌else◌, List, [], ◌∷◌, ◌++◌, replicate, refl, ap}
use Rattle.std.proofs.Common.{sym, ◌∙◌, arith}
use Rattle.std.specs.List.{list_all}
use Rattle.std.specs.Fmt.{decimal, digits, digits_onto, digit_glyph}
use Rattle.std.proofs.lemmas.Bool.{and_parts, and_from, lt-ltb}
use Rattle.std.proofs.lemmas.Bool.Decides.{nat_tests}
use Rattle.std.proofs.lemmas.List.Folds.{list_all-append}
use Rattle.std.proofs.lemmas.Nat.{mod_below}
use Rattle.text_words.specs.Blanks.{is_blank}
use Rattle.text_words.specs.Identifier.{is_identifier_part, is_identifier, IsIdentifier}
use Rattle.text_words.proofs.KnownIdentifiers.{letter-part, part_ascii, tested-identifier}
use Rattle.outer_syntax.proofs.KnownLeads.{apart}

-- a scalar in ASCII with which YXML doesn't mark up
abbrev pub is_plain : ℕ → Bool
is_plain c = nat_lt c 128 && (not (c == 5) && not (c == 6))

pub record Plain (text : List ℕ) : Type 0 where
  pub each : list_all is_plain text ≡ true

-- a text that is given
pub spelled : {s : List ℕ} → list_all is_plain s ≡ true → Plain s
spelled each = record { each = each }

pub joined : {s t : List ℕ} → Plain s → Plain t → Plain (s ++ t)
joined {s} {t} p q =
    spelled (list_all-append is_plain s t
    ∙ and_from (list_all is_plain s) (list_all is_plain t) p.each q.each)

-- a text behind one that is given
pub after : (front : List ℕ) {s : List ℕ} → list_all is_plain front ≡ true → Plain s
    → Plain (front ++ s)
after front each p = joined (spelled each) p

pub parted : (s t : List ℕ) → Plain (s ++ t) → Plain s × Plain t
parted s t p =
    let parts = and_parts (list_all is_plain s) (list_all is_plain t)
    (sym (list_all-append is_plain s t) ∙ p.each) in
    (spelled parts.0, spelled parts.1)

pub with_first : {c : ℕ} {s : List ℕ} → is_plain c ≡ true → Plain s → Plain (c ∷ s)
with_first {c} {s} p q = spelled (and_from (is_plain c) (list_all is_plain s) p q.each)

-- what passes a test that plain scalars alone pass
pub passing : (test : ℕ → Bool) → ((c : ℕ) → test c ≡ true → is_plain c ≡ true) → (s : List ℕ)
    → list_all test s ≡ true → Plain s
passing test each [] pass = spelled refl
passing test each (c ∷ s) pass =
    let parts = and_parts (test c) (list_all test s) pass in
    with_first (each c parts.0) (passing test each s parts.1)

-- low scalars that are neither 5 nor 6
pub low_plain : (c : ℕ) → c < 128 → (c == 5) ≡ false → (c == 6) ≡ false → is_plain c ≡ true
low_plain c low five six =
    and_from (nat_lt c 128) (not (c == 5) && not (c == 6)) (lt-ltb c 128 low)
    (and_from (not (c == 5)) (not (c == 6)) (ap not five) (ap not six))

blank_low : (c : ℕ) → is_blank c ≡ true → c < 128
blank_low c is = grind (arith, nat_tests)

pub blank_plain : (c : ℕ) → is_blank c ≡ true → is_plain c ≡ true
blank_plain c is =
    low_plain c (blank_low c is) (apart is_blank 5 c refl is) (apart is_blank 6 c refl is)

pub part_plain : (c : ℕ) → is_identifier_part c ≡ true → is_plain c ≡ true
part_plain c part =
    low_plain c (part_ascii c part) (apart is_identifier_part 5 c refl part)
    (apart is_identifier_part 6 c refl part)

pub tested_plain : (s : List ℕ) → is_identifier s ≡ true → Plain s
tested_plain [] is = spelled refl
tested_plain (c ∷ s) is =
    let parts = and_parts _ (list_all is_identifier_part s) is in
    with_first (part_plain c (letter-part c parts.0))
    (passing is_identifier_part part_plain s parts.1)

pub identifier_plain : (s : List ℕ) → IsIdentifier s → Plain s
identifier_plain s is = tested_plain s (tested-identifier s is)

pub primes_plain : (n : ℕ) → Plain (replicate n 39)
primes_plain zero = spelled refl
primes_plain (suc n) = with_first refl (primes_plain n)

glyph_plain : (d : ℕ) → d < 10 → is_plain (digit_glyph false d) ≡ true
glyph_plain d low = go (nat_lt d 10) refl
  where
    go : (b : Bool) → nat_lt d 10 ≡ b → is_plain (if b then 48 + d else 87 + d) ≡ true
    go true is = grind (arith, nat_tests, low)
    go false is = absurd (grind (arith, nat_tests, is, low))

onto_plain : (k n : ℕ) (more : List ℕ) → Plain more → Plain (digits_onto k 10 false n more)
onto_plain zero n more plain = plain
onto_plain (suc k) n more plain =
    go (onto_plain k (n / 10) (digit_glyph false (n % 10) ∷ more) next) next (n / 10 == 0)
  where
    next : Plain (digit_glyph false (n % 10) ∷ more)
    next = with_first (glyph_plain (n % 10) (mod_below n 10 (omega arith))) plain

    go : Plain (digits_onto k 10 false (n / 10) (digit_glyph false (n % 10) ∷ more))
        → Plain (digit_glyph false (n % 10) ∷ more)
        → (b : Bool)
        → Plain (if b then digit_glyph false (n % 10) ∷ more else digits_onto k 10 false
        (n / 10) (digit_glyph false (n % 10) ∷ more))
    go later here true = here
    go later here false = later

-- a number of any size
pub decimal_plain : (n : ℕ) → Plain (decimal n)
unfolding digits
decimal_plain n = onto_plain 64 n [] (spelled refl)
