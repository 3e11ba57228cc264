-- Numbers and the texts that write them.
use Rattle.std.proofs.Common.{inl, inr, ◌≡◌, ◌≢◌, ℕ, ◌<◌, ◌≤◌, ◌^◌, ◌==◌, ◌&&◌, false, IfSome, IfNone, nat_lt, bytes_eq, if◌then◌else◌, List, Option, Some, None, decimal, refl, sym, ap, subst, ◌∙◌, arith}
use Rattle.std.specs.Str.Parse.{digits_value}
use Rattle.std.proofs.lemmas.Fmt.{decimal_is_IsNumeral, decimal_injective}
use Rattle.xml_codec.specs.Data.{int_end}
use Rattle.message_values.specs.Numbers.{number_of}
use Rattle.message_values.specs.Shapes.{index_of}
use Rattle.message_values.proofs.KnownSteps.{tested, passed, none_found}
use Rattle.message_values.proofs.KnownTrees.{same_bytes, bytes_same}
use Rattle.std.proofs.lemmas.Bool.{ltb-true, lt-ltb, false_from_ne_true, and_parts, and_from}
use Rattle.std.proofs.lemmas.Bool.Decides.{eqb_tells}

-- what is found below an end is a number whose decimal the text is
below_sound : (end number n : ℕ) (text : List ℕ)
    → (if nat_lt number end && bytes_eq (decimal number) text then Some number else None) ≡ Some n → (n < end) × (text ≡ decimal n)
below_sound end number n text e =
    let t = tested (nat_lt number end && bytes_eq (decimal number) text) (Some number) n e in
    let same : number ≡ n = cc in
    let parts = and_parts (nat_lt number end) (bytes_eq (decimal number) text) t.0 in
    (subst (λ k. k < end) same (ltb-true number end parts.0), sym (same_bytes (decimal number) text parts.1) ∙ ap decimal same)

below_complete : (end n : ℕ) → n < end → n < 2 ^ 64
    → (if nat_lt (digits_value 10 (decimal n)) end && bytes_eq (decimal (digits_value 10 (decimal n))) (decimal n)
    then Some (digits_value 10 (decimal n)) else None) ≡ Some n
below_complete end n low small =
    subst (λ k. (if nat_lt k end && bytes_eq (decimal k) (decimal n) then Some k else None) ≡ Some n) (sym (decimal_is_IsNumeral n small).1)
    (passed (nat_lt n end && bytes_eq (decimal n) (decimal n)) (Some n) None
    (and_from (nat_lt n end) (bytes_eq (decimal n) (decimal n)) (lt-ltb n end low) (bytes_same (decimal n) (decimal n) refl)))

pub number_sound : (text : List ℕ) (n : ℕ) → number_of text ≡ Some n → (n < int_end) × (text ≡ decimal n)
number_sound text n e = below_sound int_end (digits_value 10 text) n text e

pub number_complete : (n : ℕ) → n < int_end → number_of (decimal n) ≡ Some n
number_complete n low = below_complete int_end n low (omega (arith, low))

pub index_sound : (text : List ℕ) (n : ℕ) → index_of text ≡ Some n → (n < 2 ^ 64) × (text ≡ decimal n)
index_sound text n e = below_sound (2 ^ 64) (digits_value 10 text) n text e

pub index_complete : (n : ℕ) → n < 2 ^ 64 → index_of (decimal n) ≡ Some n
index_complete n low = below_complete (2 ^ 64) n low low

-- what a reader of numbers tells is the number that is printed so
pub index_told : (r : Option ℕ) (text : List ℕ) → IfSome r (λ n. text ≡ decimal n) → IfSome r (λ n. n < 2 ^ 64)
    → IfNone r ((n : ℕ) → n < 2 ^ 64 → text ≢ decimal n) → r ≡ index_of text
index_told (Some n) text some small none = sym (ap index_of some ∙ index_complete n small)
index_told None text some small none = sym (none_found (index_of text) (λ n e. none n (index_sound text n e).0 (index_sound text n e).1))

-- a number of too many digits
pub number_great : (text : List ℕ) (m : ℕ) → text ≡ decimal m → m < 2 ^ 64 → int_end ≤ m → None ≡ number_of text
number_great text m e small great = sym (none_found (number_of text) (λ n found.
    let s = number_sound text n found in
    let low : n < int_end = s.0 in
    let same = decimal_injective m n small (omega (arith, low)) (sym e ∙ s.1) in
    omega (arith, low, great, same)))

-- a number that is read is the one that is asked for just where the text is this one's decimal
pub told_number : (found number : ℕ) (text : List ℕ) → found < 2 ^ 64 → number < 2 ^ 64 → text ≡ decimal found
    → (found == number) ≡ bytes_eq text (decimal number)
told_number found number text small low e = elim (eqb_tells found number) [
  | inl same ↦ same.0 ∙ sym (bytes_same text (decimal number) (e ∙ ap decimal same.1))
  | inr other ↦ other.0 ∙ sym (false_from_ne_true (bytes_eq text (decimal number))
      (λ t. other.1 (decimal_injective found number small low (sym e ∙ same_bytes text (decimal number) t))))
]

pub told_no_number : (number : ℕ) (text : List ℕ) → number < 2 ^ 64 → ((n : ℕ) → n < 2 ^ 64 → text ≢ decimal n)
    → false ≡ bytes_eq text (decimal number)
told_no_number number text low none =
    sym (false_from_ne_true (bytes_eq text (decimal number)) (λ t. none number low (same_bytes text (decimal number) t)))
