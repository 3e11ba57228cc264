-- A fit line names some lengths, not too many, and none too long, so what is spelled is a message.
use Rattle.std.proofs.Common.{◌≡◌, ℕ, ◌<◌, ◌≤◌, ◌^◌, Bool, true, false, cond, ◌==◌, nat_lt, List, [], ◌∷◌, length, map, sum, Option, Some, None, Result, Ok, Err, refl, ap, subst, ◌∙◌, arith}
use Rattle.std.proofs.lemmas.List.{length-map}
use Rattle.std.specs.List.{AllByRecursion, concat, list_all}
use Rattle.byte_message.specs.Heading.{heading, heading_of, judged_heading, line_of, after_line}
use Rattle.byte_message.specs.Heading.Heading.{Fit}
use Rattle.byte_message.specs.Line.{is_numeral, value_on, onto_first, between_commas, comma_numbers, too_long, judge_lengths, judge_numbers, judge, without_cr}
use Rattle.byte_message.specs.Stream.{IsMessage, IsSpelling}
use Rattle.byte_message.specs.declared.line_fault.LineFault.{LineFault}
use Rattle.byte_message.specs.declared.line_fault.LineFault.TheVariants.{BadHeader, TooMany}
use Rattle.byte_message.proofs.Headings.{never_fit}
use Rattle.byte_message.proofs.Scanning.{fine-sum, first_fine}

-- some lengths, not too many, and none too long
pub record AreLengths (ls : List ℕ) : Type 0 where
  pub some : 1 ≤ length ls
  pub few : length ls ≤ 16
  pub fine : too_long ls ≡ None

-- a text between commas is one at least
onto_some : (b : ℕ) (texts : List (List ℕ)) → 1 ≤ length (onto_first b texts)
onto_some b [] = omega arith
onto_some b (text ∷ texts) = omega arith

by_comma : (q : Bool) (b : ℕ) (bs : List ℕ) → 1 ≤ length (cond q ([] ∷ between_commas bs) (onto_first b (between_commas bs)))
by_comma true b bs = omega arith
by_comma false b bs = onto_some b (between_commas bs)

some_texts : (text : List ℕ) → 1 ≤ length (between_commas text)
some_texts [] = omega arith
some_texts (b ∷ bs) = by_comma (b == 44) b bs

by_numerals : (q : Bool) (texts : List (List ℕ)) (numbers : List ℕ) → cond q (Some (map (λ numeral. value_on 0 numeral) texts)) None ≡ Some numbers
    → 1 ≤ length texts → 1 ≤ length numbers
by_numerals true texts numbers e some =
    let same : map (λ numeral. value_on 0 numeral) texts ≡ numbers = cc in
    let count = length-map texts (λ numeral. value_on 0 numeral) in
    let l : length (map (λ numeral. value_on 0 numeral) texts) ≡ length numbers = ap length same in
    omega arith
by_numerals false texts numbers e some = cc

some_numbers : (text numbers : List ℕ) → comma_numbers text ≡ Some numbers → 1 ≤ length numbers
some_numbers text numbers e = by_numerals (list_all is_numeral (between_commas text)) (between_commas text) numbers e (some_texts text)

fit_lengths : (ns ls : List ℕ) (o : Option ℕ) → too_long ns ≡ o → judge_lengths ns o ≡ Ok ls → (too_long ns ≡ None) × (ns ≡ ls)
fit_lengths ns ls None e f = (e, cc)
fit_lengths ns ls (Some k) e f = cc

fit_few : (q : Bool) (ns ls : List ℕ) → nat_lt 16 (length ns) ≡ q → cond q (Err (TooMany (length ns))) (judge_lengths ns (too_long ns)) ≡ Ok ls
    → 1 ≤ length ns → AreLengths ls
fit_few true ns ls e f some = cc
fit_few false ns ls e f some =
    let p = fit_lengths ns ls (too_long ns) refl f in
    let few : length ns ≤ 16 = grind (arith, e) in
    subst AreLengths p.1 (record { some = some; few = few; fine = p.0 })

fit_numbers : (o : Option (List ℕ)) (ls : List ℕ) → judge_numbers o ≡ Ok ls → ((ns : List ℕ) → o ≡ Some ns → 1 ≤ length ns) → AreLengths ls
fit_numbers None ls f some = cc
fit_numbers (Some ns) ls f some = fit_few (nat_lt 16 (length ns)) ns ls refl f (some ns refl)

fit_line : (q : Bool) (o : Option (List ℕ)) (ls : List ℕ) → cond q (Err BadHeader) (judge_numbers o) ≡ Ok ls → ((ns : List ℕ) → o ≡ Some ns → 1 ≤ length ns)
    → AreLengths ls
fit_line true o ls f some = cc
fit_line false o ls f some = fit_numbers o ls f some

pub judge-lengths : (line ls : List ℕ) → judge line ≡ Ok ls → AreLengths ls
judge-lengths line ls f = fit_line (nat_lt 200 (length line)) (comma_numbers (without_cr line)) ls f (some_numbers (without_cr line))

-- it names at most 2^28 bytes
pub judge-small : (line ls : List ℕ) → judge line ≡ Ok ls → sum ls < 2 ^ 30
judge-small line ls f =
    let a = judge-lengths line ls f in
    let s = fine-sum ls a.fine in
    let few = a.few in
    omega arith

by_judge : (line b ls body : List ℕ) (r : Result (List ℕ) LineFault) → judge line ≡ r → judged_heading r b ≡ Fit ls body → AreLengths ls
by_judge line b ls body (Ok ms) j e = judge-lengths line ls (j ∙ cc)
by_judge line b ls body (Err fault) j e = cc

by_line : (line ls body : List ℕ) (o : Option (List ℕ)) → heading_of line o ≡ Fit ls body → AreLengths ls
by_line line ls body None e = absurd (never_fit (nat_lt 200 (length line)) ls body e)
by_line line ls body (Some b) e = by_judge line b ls body (judge line) refl e

heading-lengths : (bytes ls body : List ℕ) → heading bytes ≡ Fit ls body → AreLengths ls
heading-lengths bytes ls body e = by_line (line_of bytes) ls body (after_line bytes) e

short_chunks : (chunks : List (List ℕ)) → too_long (map length chunks) ≡ None → AllByRecursion (λ chunk. length chunk ≤ 16777216) chunks
short_chunks [] e = tt
short_chunks (chunk ∷ chunks) e =
    let p = first_fine (nat_lt 16777216 (length chunk)) (too_long (map length chunks)) e in
    let short : length chunk ≤ 16777216 = grind (arith, p.0) in
    (short, short_chunks chunks p.1)

-- what is spelled has some chunks, not too many, and none too long
pub spelled-message : (bytes : List ℕ) (message : List (List ℕ)) → IsSpelling bytes message → IsMessage message
spelled-message bytes message spelled =
    let a = heading-lengths bytes (map length message) (concat message) spelled in
    let some = a.some in
    let few = a.few in
    let count = length-map message length in
    record { some = omega arith; few = omega arith; short = short_chunks message a.fine }
