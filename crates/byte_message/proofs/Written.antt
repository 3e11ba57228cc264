-- What is written is a spelling.
use Rattle.std.proofs.Common.{◌≡◌, ℕ, zero, suc, ◌-◌, ◌*◌, ◌≤◌, true, false, ◌==◌, nat_lt, List, [], ◌∷◌, ◌++◌, length, map, Some, None, Ok, inl, inr, refl, ap, sym, ◌∙◌, arith, append_assoc}
use Rattle.std.proofs.lemmas.List.{length-map, length-append}
use Rattle.std.specs.Fmt.{decimal}
use Rattle.std.specs.List.{AllByRecursion, concat, join_with_byte, list_all, slice_index_or}
use Rattle.std.proofs.lemmas.Bool.{and_parts}
use Rattle.byte_message.specs.Line.{is_digit, too_long, judge, judge_numbers}
use Rattle.byte_message.specs.Heading.{heading, judged_heading, after_line}
use Rattle.byte_message.specs.Stream.{IsMessage, IsSpelling, plain_spelling}
use Rattle.byte_message.proofs.Headings.{heading-line}
use Rattle.byte_message.proofs.Numbers.{IsPlain, digit_range, line_for, Fine, digits, numbers-line, line_len}

-- a line that is written has no newline, and no CR at its end
plain_byte : (b : ℕ) → IsPlain b → ((b == 10) ≡ false) × ((b == 13) ≡ false)
plain_byte b (inl e) = (grind (arith, e), grind (arith, e))
plain_byte b (inr e) = let r = digit_range b e in (grind (arith, r.0), grind (arith, r.0))

plain_digits : (ds : List ℕ) → list_all is_digit ds ≡ true → AllByRecursion IsPlain ds
plain_digits [] e = tt
plain_digits (d ∷ ds) e = let p = and_parts (is_digit d) (list_all is_digit ds) e in (inr p.0, plain_digits ds p.1)

plain_append : (xs ys : List ℕ) → AllByRecursion IsPlain xs → AllByRecursion IsPlain ys → AllByRecursion IsPlain (xs ++ ys)
plain_append [] ys p q = q
plain_append (x ∷ xs) ys (h, p) q = (h, plain_append xs ys p q)

plain_line : (ns : List ℕ) → Fine ns → AllByRecursion IsPlain (line_for ns)
plain_line [] f = tt
plain_line (n ∷ []) (h, f) = plain_digits (decimal n) (digits n h)
plain_line (n ∷ k ∷ ns) (h, f) = plain_append (decimal n) (44 ∷ line_for (k ∷ ns)) (plain_digits (decimal n) (digits n h)) (inl refl, plain_line (k ∷ ns) f)

no_newline : (xs : List ℕ) → AllByRecursion IsPlain xs → after_line xs ≡ None
no_newline [] p = refl
no_newline (x ∷ xs) (h, p) = let b = plain_byte x h in rw b.0 (no_newline xs p)

no_cr : (xs : List ℕ) (i : ℕ) → AllByRecursion IsPlain xs → (slice_index_or xs i 0 == 13) ≡ false
no_cr [] i p = refl
no_cr (x ∷ xs) zero (h, p) = (plain_byte x h).1
no_cr (x ∷ xs) (suc i) (h, p) = no_cr xs i p

fine_none : (ns : List ℕ) → Fine ns → too_long ns ≡ None
fine_none [] f = refl
fine_none (n ∷ ns) (h, f) =
    let q : nat_lt 16777216 n ≡ false = grind (arith, h) in
    rw (q, fine_none ns f) refl

fit-numbers : (ns : List ℕ) → Fine ns → length ns ≤ 16 → judge_numbers (Some ns) ≡ Ok ns
fit-numbers ns f few =
    let q : nat_lt 16 (length ns) ≡ false = grind (arith, few) in
    rw (q, fine_none ns f) refl

fit-line : (n : ℕ) (ns : List ℕ) → Fine (n ∷ ns) → length (n ∷ ns) ≤ 16 → judge (line_for (n ∷ ns)) ≡ Ok (n ∷ ns)
fit-line n ns f few =
    let line = line_for (n ∷ ns) in
    let l = line_len (n ∷ ns) f in
    let fits : length line ≤ 200 = omega arith in
    let q : nat_lt 200 (length line) ≡ false = grind (arith, fits) in
    let cr = no_cr line (length line - 1) (plain_line (n ∷ ns) f) in
    rw (q, cr) (ap judge_numbers (numbers-line n ns f) ∙ fit-numbers (n ∷ ns) f few)

lengths_fine : (chunks : List (List ℕ)) → AllByRecursion (λ chunk. length chunk ≤ 16777216) chunks → Fine (map length chunks)
lengths_fine [] h = tt
lengths_fine (chunk ∷ chunks) (h, f) = (h, lengths_fine chunks f)

in_decimal : (chunks : List (List ℕ)) → map (λ chunk. decimal (length chunk)) chunks ≡ map decimal (map length chunks)
in_decimal [] = refl
in_decimal (chunk ∷ chunks) = ap (λ x. decimal (length chunk) ∷ x) (in_decimal chunks)

pub written : (chunks : List (List ℕ)) → IsMessage chunks → IsSpelling (plain_spelling chunks) chunks
written [] m = let n = m.some in absurd (omega arith)
written (chunk ∷ chunks) m =
    let all = chunk ∷ chunks in
    let body = concat all in
    let f = lengths_fine all m.short in
    let few = m.few in
    let count : length (map length all) ≤ 16 = let k = length-map all length in omega arith in
    let line = line_for (map length all) in
    let split : plain_spelling all ≡ (line ++ 10 ∷ []) ++ body = ap (λ x. join_with_byte 44 x ++ (10 ∷ body)) (in_decimal all) ∙ sym (append_assoc line (10 ∷ []) body) in
    ap heading split ∙ heading-line line body (no_newline line (plain_line (map length all) f))
    ∙ ap (λ r. judged_heading r body) (fit-line (length chunk) (map length chunks) f count)

short_length : (chunks : List (List ℕ)) → AllByRecursion (λ chunk. length chunk ≤ 16777216) chunks → length (concat chunks) ≤ length chunks * 16777216
short_length [] h = omega arith
short_length (chunk ∷ chunks) (h, f) =
    let ih = short_length chunks f in
    let l = length-append chunk (concat chunks) in
    omega arith

-- the chunks of a message have at most 2^28 bytes
pub message_length : (chunks : List (List ℕ)) → IsMessage chunks → length (concat chunks) ≤ 268435456
message_length chunks m =
    let few = m.few in
    let short = short_length chunks m.short in
    omega arith
