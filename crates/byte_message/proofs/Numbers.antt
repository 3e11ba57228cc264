-- The numbers of a line that is written.
use Rattle.std.proofs.Common.{◌≡◌, ℕ, ◌*◌, ◌^◌, ◌<◌, ◌≤◌, true, false, cond, ◌==◌, List, [], ◌∷◌, ◌++◌, length, map, Some, None, ◌⊎◌, refl, ap, ◌∙◌, arith, rules}
use Rattle.std.proofs.lemmas.List.{length-append}
use Rattle.std.proofs.lemmas.Fmt.{digits_decimal, digits_value-decimal, decimal_nonempty, length-decimal-le}
use Rattle.std.proofs.lemmas.Str.Parse.{IsNumeralModel, numerals_by_fold}
use Rattle.std.specs.Fmt.{decimal}
use Rattle.std.specs.List.{AllByRecursion, join_with_byte, list_all}
use Rattle.std.proofs.lemmas.Bool.{and_parts}
use Rattle.byte_message.specs.Line.{is_digit, is_numeral, value_on, onto_first, between_commas, comma_numbers}

own : IsNumeralModel (λ ds. list_all is_digit ds ≡ true) (value_on 0)
own = numerals_by_fold _ (search rules) value_on (search rules)

-- a byte of a line that is written: a digit or a comma
abbrev pub IsPlain : ℕ → Type 0
IsPlain b = (b ≡ 44) ⊎ (is_digit b ≡ true)

pub digit_range : (b : ℕ) → is_digit b ≡ true → (48 ≤ b) × (b ≤ 57)
digit_range b e = (grind (arith, e), grind (arith, e))

-- digits alone are one field
one_field : (ds : List ℕ) → list_all is_digit ds ≡ true → between_commas ds ≡ ds ∷ []
one_field [] e = refl
one_field (d ∷ ds) e =
    let p = and_parts (is_digit d) (list_all is_digit ds) e in
    let r = digit_range d p.0 in
    let no : (d == 44) ≡ false = grind (arith, r.0) in
    rw no (ap (λ x. onto_first d x) (one_field ds p.1))

-- digits before a comma are the first field
more_fields : (ds t : List ℕ) → list_all is_digit ds ≡ true → between_commas (ds ++ 44 ∷ t) ≡ ds ∷ between_commas t
more_fields [] t e = refl
more_fields (d ∷ ds) t e =
    let p = and_parts (is_digit d) (list_all is_digit ds) e in
    let r = digit_range d p.0 in
    let no : (d == 44) ≡ false = grind (arith, r.0) in
    rw no (ap (λ x. onto_first d x) (more_fields ds t p.1))

-- the line of these lengths
abbrev pub line_for : List ℕ → List ℕ
line_for lengths = join_with_byte 44 (map decimal lengths)

abbrev pub Fine : List ℕ → Type 0
Fine lengths = AllByRecursion (λ n. n ≤ 16777216) lengths

small : (n : ℕ) → n ≤ 16777216 → n < 2 ^ 64
small n h = omega arith

pub digits : (n : ℕ) → n ≤ 16777216 → list_all is_digit (decimal n) ≡ true
digits n h = digits_decimal own n (small n h)

numeral : (ds : List ℕ) → list_all is_digit ds ≡ true → 0 < length ds → is_numeral ds ≡ true
numeral [] e n = absurd (omega arith)
numeral (d ∷ ds) e n = e

fields : (n : ℕ) (ns : List ℕ) → Fine (n ∷ ns) → between_commas (line_for (n ∷ ns)) ≡ map decimal (n ∷ ns)
fields n [] (h, f) = one_field (decimal n) (digits n h)
fields n (k ∷ ns) (h, f) = more_fields (decimal n) (line_for (k ∷ ns)) (digits n h) ∙ ap (λ x. decimal n ∷ x) (fields k ns f)

all_numerals : (ns : List ℕ) → Fine ns → list_all is_numeral (map decimal ns) ≡ true
all_numerals [] f = refl
all_numerals (n ∷ ns) (h, f) =
    let one = numeral (decimal n) (digits n h) (decimal_nonempty n (small n h)) in
    rw one (all_numerals ns f)

values : (ns : List ℕ) → Fine ns → map (λ numeral. value_on 0 numeral) (map decimal ns) ≡ ns
values [] f = refl
values (n ∷ ns) (h, f) = let v = digits_value-decimal own n (small n h) in rw v (ap (λ x. n ∷ x) (values ns f))

pub numbers-line : (n : ℕ) (ns : List ℕ) → Fine (n ∷ ns)
    → comma_numbers (line_for (n ∷ ns)) ≡ Some (n ∷ ns)
numbers-line n ns f =
    let e = fields n ns f in
    let a = all_numerals (n ∷ ns) f in
    let v = values (n ∷ ns) f in
    ap (λ x. cond (list_all is_numeral x) (Some (map (λ numeral. value_on 0 numeral) x)) None) e
    ∙ ap (λ q. cond q (Some (map (λ numeral. value_on 0 numeral) (map decimal (n ∷ ns)))) None) a
    ∙ ap (λ x. Some x) v

pub line_len : (ns : List ℕ) → Fine ns → length (line_for ns) ≤ 9 * length ns
line_len [] f = omega arith
line_len (n ∷ []) (h, f) = let l = length-decimal-le 8 n (omega arith) (omega arith) (small n h) in omega arith
line_len (n ∷ k ∷ ns) (h, f) =
    let l = length-decimal-le 8 n (omega arith) (omega arith) (small n h) in
    let a = length-append (decimal n) (44 ∷ line_for (k ∷ ns)) in
    let ih = line_len (k ∷ ns) f in
    omega arith
