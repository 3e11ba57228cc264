-- Numbers and their decimals.
use Rattle.std.proofs.Common.{◌≡◌, ◌≢◌, ℕ, zero, suc, ◌<◌, ◌^◌, ◌==◌, ◌||◌, ◌&&◌, nat_lt, Bool, true, false, List, ◌∷◌, length, drop, Result, Ok, sym, ap, ◌∙◌, subst, arith, decimal, ltb-false, ne_eqb}
use Rattle.std.specs.Prelude.{ℤ, pos, negsuc, slice_index}
use Rattle.std.specs.Str.Parse.{AllDigits, IsNumeral, digits_value, ParsesUnsigned}
use Rattle.std.specs.Result.{OkIff}
use Rattle.std.specs.Fmt.{signed_decimal}
use Rattle.std.proofs.lemmas.Fmt.{parse-decimal, decimal-digits_value, decimal_digit, first_decimal, decimal_is_IsNumeral, decimal_injective}
use Rattle.std.proofs.lemmas.Str.Parse.{numerals_by_value, tells_digits, digit_from_value, without_leading_plus_none}
use Rattle.std.proofs.lemmas.Int.{ints}
use lib.Signed.{mag}
use Rattle.xml_codec.specs.Data.{IsShort, int_end}

pub short_small : (n : ℤ) → IsShort n → mag n < 2 ^ 63
short_small (pos n) short = omega (arith, ints, short.1)
short_small (negsuc n) short = omega (arith, ints, short.0)

-- a '+' stands first, or a '0' before more
abbrev pub padded : ℕ → ℕ → Bool
padded first len = first == 43 || (first == 48 && nat_lt 1 len)

no_plus : (first len : ℕ) → padded first len ≡ false → first ≢ 43
no_plus first len e z =
    let no : true ≡ false = subst (λ (f : ℕ). padded f len ≡ false) z e in absurd (cc no)

zero_alone : (first len : ℕ) → padded first len ≡ false → 0 < len → first ≡ 48 → len ≡ 1
zero_alone first len e some z =
    let small : nat_lt 1 len ≡ false = subst (λ (f : ℕ). padded f len ≡ false) z e in omega (arith, ltb-false _ _ small)

-- a decimal is read as its number
pub decimal_read : {E : Type 0} (n : ℕ) (text : List ℕ) (r : Result ℕ E) → n < 2 ^ 64 → text ≡ decimal n → ParsesUnsigned 64 10 text r → r ≡ Ok n
decimal_read n text r small e h = parse-decimal 64 n text r small small e h

-- what is not padded is the decimal of the number that it is read as
pub read_whole : {E : Type 0} (n : ℕ) (text : List ℕ) (r : Result ℕ E) → padded (slice_index text 0) (length text) ≡ false → ParsesUnsigned 64 10 text r → r ≡ Ok n → text ≡ decimal n
read_whole n text r plain h e =
    let read : OkIff r (IsNumeral 10 text × (digits_value 10 text < 2 ^ 64)) (digits_value 10 text)
    = subst (λ l. OkIff r (IsNumeral 10 l × (digits_value 10 l < 2 ^ 64)) (digits_value 10 l)) (without_leading_plus_none text (no_plus _ _ plain)) h in
    let told : (IsNumeral 10 text × (digits_value 10 text < 2 ^ 64)) × (n ≡ digits_value 10 text)
    = subst (λ s. OkIff s (IsNumeral 10 text × (digits_value 10 text < 2 ^ 64)) (digits_value 10 text)) e read in
    sym (ap decimal told.1 ∙ decimal-digits_value (numerals_by_value _ tells_digits) text told.0.0.1 told.0.0.0 (zero_alone _ _ plain told.0.0.0) told.0.1)

-- no decimal is padded
pub decimal_plain : (n : ℕ) → n < 2 ^ 64 → padded (slice_index (decimal n) 0) (length (decimal n)) ≢ true
decimal_plain zero small e =
    let no : false ≡ true = subst (λ l. padded (slice_index l 0) (length l) ≡ true) (decimal_digit 0 (omega arith)) e in absurd (cc no)
decimal_plain (suc n) small e = large _ _ (first_decimal (suc n) (omega arith) small) e where
  large : (first len : ℕ) → 48 < first → padded first len ≢ true
  large first len more is =
      let a : (first == 43) ≡ false = ne_eqb first 43 (λ z. omega (arith, more)) in
      let b : (first == 48) ≡ false = ne_eqb first 48 (λ z. omega (arith, more)) in
      let no : false ≡ true = subst (λ t. (t && nat_lt 1 len) ≡ true) b (subst (λ t. (t || (first == 48 && nat_lt 1 len)) ≡ true) a is) in absurd (cc no)

-- so no decimal is told of a padded text
pub padded_none : (n : ℕ) (text : List ℕ) → n < 2 ^ 64 → padded (slice_index text 0) (length text) ≡ true → text ≢ decimal n
padded_none n text small e is = decimal_plain n small (subst (λ l. padded (slice_index l 0) (length l) ≡ true) is e)

no_minus : (n : ℕ) (rest : List ℕ) → n < 2 ^ 64 → decimal n ≢ 45 ∷ rest
no_minus n rest small e = omega (arith, digit_from_value 45 (subst (AllDigits 10) e (decimal_is_IsNumeral n small).0.1).0)

-- behind a minus stands the decimal of a number
pub behind_minus : (n : ℤ) (rest : List ℕ) → IsShort n → signed_decimal n ≡ 45 ∷ rest → (m : ℕ) × (m < int_end) × (rest ≡ decimal m) × (0 < m)
behind_minus (pos n) rest short e = absurd (no_minus n rest (omega (arith, ints, short.1)) e)
behind_minus (negsuc n) rest short e = (suc n, omega (arith, ints, short.0), sym (ap (drop 1) e), omega arith)

-- which is not 0
pub no_negative_zero : (n : ℤ) → IsShort n → signed_decimal n ≢ 45 ∷ decimal 0
no_negative_zero n short e =
    let told = behind_minus n (decimal 0) short e in
    omega (arith, told.3, decimal_injective 0 told.0 (omega arith) (omega (arith, told.1)) told.2)

-- what has no minus is the decimal of a number
pub without_minus : (n : ℤ) (text : List ℕ) → IsShort n → text ≡ signed_decimal n → ((rest : List ℕ) → text ≢ 45 ∷ rest) → (m : ℕ) × (m < int_end) × (text ≡ decimal m)
without_minus (pos n) text short e plain = (n, omega (arith, ints, short.1), e)
without_minus (negsuc n) text short e plain = absurd (plain _ e)
