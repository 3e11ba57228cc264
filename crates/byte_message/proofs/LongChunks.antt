-- The lengths of chunks, read from the line of a plain spelling.
use Rattle.std.proofs.Common.{◌≡◌, ℕ, ◌+◌, ◌-◌, ◌*◌, ◌^◌, ◌<◌, ◌≤◌, Bool, true, false, cond, ◌==◌, nat_lt, min, List, [], ◌∷◌, ◌++◌, length, map, Option, Some, None, refl, sym, ap, ◌∙◌, arith, rules, append_assoc}
use Rattle.std.specs.Prelude.{filter, slice_get}
use Rattle.std.specs.Fmt.{decimal}
use Rattle.std.specs.List.{AllByRecursion, concat, join_with_byte, list_all}
use Rattle.std.proofs.lemmas.Bool.{and_parts}
use Rattle.std.proofs.Math.ListN.{get_or}
use Rattle.std.proofs.lemmas.Fmt.{digits_decimal, digits_value-decimal}
use Rattle.std.proofs.lemmas.List.{length-append}
use Rattle.std.proofs.lemmas.Str.Parse.{IsNumeralModel, numerals_by_fold}
use Rattle.byte_message.specs.Line.{is_digit, value_on}
use Rattle.byte_message.specs.Long.{long_lengths}
use Rattle.byte_message.specs.Stream.{plain_spelling}
use Rattle.byte_message.proofs.Numbers.{digit_range, line_for}

own : IsNumeralModel (λ ds. list_all is_digit ds ≡ true) (value_on 0)
own = numerals_by_fold _ (search rules) value_on (search rules)

-- the first length that is too long, where digits of this value were read before
abbrev pub long_on : ℕ → List ℕ → Option ℕ
long_on n [] = None
long_on n (b ∷ bs) = cond (is_digit b) (long_on (min (n * 10 + (b - 48)) (2 ^ 64 - 1)) bs)
    (cond (nat_lt 16777216 n) (Some n) (cond (b == 10) None (long_on 0 bs)))

-- digits only add to the value
value_rises : (n : ℕ) (ds : List ℕ) → n ≤ value_on n ds
value_rises n [] = omega arith
value_rises n (d ∷ ds) = let more = value_rises (n * 10 + (d - 48)) ds in omega arith

on_digits : (n : ℕ) (ds bs : List ℕ) → list_all is_digit ds ≡ true → value_on n ds < 2 ^ 64 → long_on n (ds ++ bs) ≡ long_on (value_on n ds) bs
on_digits n [] bs e small = refl
on_digits n (d ∷ ds) bs e small =
    let p = and_parts (is_digit d) (list_all is_digit ds) e in
    let rises = value_rises (n * 10 + (d - 48)) ds in
    let fits : min (n * 10 + (d - 48)) (2 ^ 64 - 1) ≡ n * 10 + (d - 48) = grind (arith, rises, small) in
    rw (p.0, fits) (on_digits (n * 10 + (d - 48)) ds bs p.1 small)

on_number : (n : ℕ) (bs : List ℕ) → n < 2 ^ 64 → long_on 0 (decimal n ++ bs) ≡ long_on n bs
on_number n bs small =
    let v : value_on 0 (decimal n) ≡ n = digits_value-decimal own n small in
    on_digits 0 (decimal n) bs (digits_decimal own n small) (rw v small) ∙ ap (λ k. long_on k bs) v

abbrev first_long : List ℕ → Option ℕ
first_long ns = slice_get (filter (nat_lt 16777216) ns) 0

by_size : (q : Bool) (n : ℕ) (ns : List ℕ) → nat_lt 16777216 n ≡ q → cond q (Some n) (first_long ns) ≡ first_long (n ∷ ns)
by_size true n ns e = rw e refl
by_size false n ns e = rw e refl

abbrev AreWide : List ℕ → Type 0
AreWide ns = AllByRecursion (λ n. n < 2 ^ 64) ns

on_line : (ns body : List ℕ) → AreWide ns → long_on 0 (line_for ns ++ (10 ∷ body)) ≡ first_long ns
on_line [] body w = refl
on_line (n ∷ []) body (w, all) = on_number n (10 ∷ body) w ∙ by_size (nat_lt 16777216 n) n [] refl
on_line (n ∷ k ∷ ns) body (w, all) =
    ap (long_on 0) (append_assoc (decimal n) (44 ∷ line_for (k ∷ ns)) (10 ∷ body)) ∙ on_number n (44 ∷ (line_for (k ∷ ns) ++ (10 ∷ body))) w
    ∙ ap (λ o. cond (nat_lt 16777216 n) (Some n) o) (on_line (k ∷ ns) body all) ∙ by_size (nat_lt 16777216 n) n (k ∷ ns) refl

-- at a byte that is no digit a number ends
pub at_long : (n : ℕ) (rest : List ℕ) → 1 ≤ length rest → is_digit (get_or rest 0 0) ≡ false → 16777216 < n → long_on n rest ≡ Some n
at_long n [] some other many = absurd (omega (arith, some))
at_long n (b ∷ bs) some other many = let q : nat_lt 16777216 n ≡ true = grind (arith, many) in rw (other, q) refl

pub at_end : (n : ℕ) (rest : List ℕ) → 1 ≤ length rest → get_or rest 0 0 ≡ 10 → n ≤ 16777216 → long_on n rest ≡ None
at_end n [] some end few = absurd (omega (arith, some))
at_end n (b ∷ bs) some end few =
    let q : nat_lt 16777216 n ≡ false = grind (arith, few) in
    let other : is_digit b ≡ false = rw end refl in
    let is : (b == 10) ≡ true = grind (arith, end) in
    rw (other, q, is) refl

pub at_none : (n : ℕ) (rest : List ℕ) → length rest ≤ 0 → long_on n rest ≡ None
at_none n [] none = refl
at_none n (b ∷ bs) none = absurd (omega (arith, none))

-- each chunk is shorter than all bytes together
wide : (chunks : List (List ℕ)) → length (concat chunks) < 2 ^ 64 → AreWide (map length chunks)
wide [] h = tt
wide (chunk ∷ chunks) h = let l = length-append chunk (concat chunks) in (omega arith, wide chunks (omega arith))

in_decimal : (chunks : List (List ℕ)) → map (λ chunk. decimal (length chunk)) chunks ≡ map decimal (map length chunks)
in_decimal [] = refl
in_decimal (chunk ∷ chunks) = ap (λ x. decimal (length chunk) ∷ x) (in_decimal chunks)

pub long_of : (spelled : List ℕ) (chunks : List (List ℕ)) → length spelled < 2 ^ 64 → spelled ≡ plain_spelling chunks
    → long_on 0 spelled ≡ slice_get (long_lengths chunks) 0
long_of spelled chunks short is =
    let line = join_with_byte 44 (map (λ chunk. decimal (length chunk)) chunks) in
    let all : length spelled ≡ length (line ++ (10 ∷ concat chunks)) = ap length is in
    let l = length-append line (10 ∷ concat chunks) in
    let fits : length (concat chunks) < 2 ^ 64 = omega arith in
    ap (long_on 0) is ∙ ap (λ x. long_on 0 (join_with_byte 44 x ++ (10 ∷ concat chunks))) (in_decimal chunks)
    ∙ on_line (map length chunks) (concat chunks) (wide chunks fits)
