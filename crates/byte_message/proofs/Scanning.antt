-- Reading byte by byte gives the numbers of the text, as far as they matter.
use Rattle.std.proofs.Common.{◌≡◌, ℕ, ◌+◌, ◌-◌, ◌*◌, ◌<◌, ◌≤◌, Bool, true, false, cond, ◌&&◌, ◌==◌, nat_lt, List, [], ◌∷◌, length, map, Option, Some, None, option_map, ◌^◌, refl, ap, sym, ◌∙◌, arith, sum, Ok, Err}
use Rattle.std.proofs.lemmas.List.{length-map}
use Rattle.std.specs.List.{list_all}
use Rattle.std.specs.Option.{unwrap_or}
use Rattle.text_words.proofs.KnownLists.{sum_cons}
use Rattle.byte_message.specs.Line.{is_digit, is_numeral, value_on, onto_first, between_commas, comma_numbers, too_long, judge_lengths, judge_numbers, judge, without_cr}
use Rattle.byte_message.specs.Scan.{clamp, grown, scan}
use Rattle.byte_message.specs.declared.line_fault.LineFault.TheVariants.{BadHeader, TooMany}

-- the numbers of texts, where the first goes on after digits of this value
abbrev pub numbers_on : Option ℕ → List (List ℕ) → Option (List ℕ)
numbers_on None [] = Some []
numbers_on (Some n) [] = Some (n ∷ [])
numbers_on None (first ∷ others) = cond (list_all is_numeral (first ∷ others)) (Some (map (λ numeral. value_on 0 numeral) (first ∷ others))) None
numbers_on (Some n) (first ∷ others) = cond (list_all is_digit first && list_all is_numeral others) (Some (value_on n first ∷ map (λ numeral. value_on 0 numeral) others)) None

abbrev pub clamped : Option (List ℕ) → Option (List ℕ)
clamped numbers = option_map (λ ns. map clamp ns) numbers

-- a digit more
digit_on : (before : Option ℕ) (b : ℕ) (fields : List (List ℕ)) → is_digit b ≡ true → numbers_on before (onto_first b fields) ≡ numbers_on (Some (unwrap_or before 0 * 10 + (b - 48))) fields
digit_on None b [] e = rw e refl
digit_on (Some n) b [] e = rw e refl
digit_on None b (first ∷ others) e = rw e refl
digit_on (Some n) b (first ∷ others) e = rw e refl

-- no digit, nor a comma
other_on : (before : Option ℕ) (b : ℕ) (fields : List (List ℕ)) → is_digit b ≡ false → numbers_on before (onto_first b fields) ≡ None
other_on None b [] e = rw e refl
other_on (Some n) b [] e = rw e refl
other_on None b (first ∷ others) e = rw e refl
other_on (Some n) b (first ∷ others) e = rw e refl

ended_by : (n : ℕ) (q : Bool) (xs : List ℕ) → option_map (λ ns. clamp n ∷ ns) (clamped (cond q (Some xs) None)) ≡ clamped (cond q (Some (n ∷ xs)) None)
ended_by n true xs = refl
ended_by n false xs = refl

-- a comma after a number
comma_on : (n : ℕ) (fields : List (List ℕ)) → option_map (λ ns. clamp n ∷ ns) (clamped (numbers_on None fields)) ≡ clamped (numbers_on (Some n) ([] ∷ fields))
comma_on n [] = refl
comma_on n (first ∷ others) = ended_by n (list_all is_numeral (first ∷ others)) (map (λ numeral. value_on 0 numeral) (first ∷ others))

digit_no_comma : (b : ℕ) → is_digit b ≡ true → (b == 44) ≡ false
digit_no_comma b e = grind (arith, e)

grown-clamp : (before : Option ℕ) (b : ℕ) → grown (option_map clamp before) b ≡ clamp (unwrap_or before 0 * 10 + (b - 48))
grown-clamp None b = refl
grown-clamp (Some n) b = omega arith

-- one byte more, by what it is
scan_byte : (before : Option ℕ) (b : ℕ) (bs : List ℕ)
    → ((k : Option ℕ) → scan (option_map clamp k) bs ≡ clamped (numbers_on k (between_commas bs)))
    → (d c : Bool) → is_digit b ≡ d → (b == 44) ≡ c
    → scan (option_map clamp before) (b ∷ bs) ≡ clamped (numbers_on before (between_commas (b ∷ bs)))
scan_byte None b bs ih true true e f = cc (digit_no_comma b e)
scan_byte (Some n) b bs ih true true e f = cc (digit_no_comma b e)
scan_byte None b bs ih true false e f =
    rw (e, f) (ap (λ k. scan (Some k) bs) (grown-clamp None b) ∙ ih (Some (unwrap_or None 0 * 10 + (b - 48))) ∙ ap clamped (sym (digit_on None b (between_commas bs) e)))
scan_byte (Some n) b bs ih true false e f =
    rw (e, f) (ap (λ k. scan (Some k) bs) (grown-clamp (Some n) b) ∙ ih (Some (unwrap_or (Some n) 0 * 10 + (b - 48))) ∙ ap clamped (sym (digit_on (Some n) b (between_commas bs) e)))
scan_byte None b bs ih false true e f = rw (e, f) refl
scan_byte (Some n) b bs ih false true e f = rw (e, f) (ap (λ o. option_map (λ ns. clamp n ∷ ns) o) (ih None) ∙ comma_on n (between_commas bs))
scan_byte None b bs ih false false e f = rw (e, f) (ap clamped (sym (other_on None b (between_commas bs) e)))
scan_byte (Some n) b bs ih false false e f = rw (e, f) (ap clamped (sym (other_on (Some n) b (between_commas bs) e)))

scan_is : (text : List ℕ) (before : Option ℕ) → scan (option_map clamp before) text ≡ clamped (numbers_on before (between_commas text))
scan_is [] None = refl
scan_is [] (Some n) = refl
scan_is (b ∷ bs) before = scan_byte before b bs (scan_is bs) (is_digit b) (b == 44) refl refl

all_numbers : (fields : List (List ℕ)) → numbers_on None fields ≡ cond (list_all is_numeral fields) (Some (map (λ numeral. value_on 0 numeral) fields)) None
all_numbers [] = refl
all_numbers (first ∷ others) = refl

pub scan-numbers : (text : List ℕ) → scan None text ≡ clamped (comma_numbers text)
scan-numbers text = scan_is text None ∙ ap clamped (all_numbers (between_commas text))

-- lengths that are too long are told as such
over-clamp : (n : ℕ) → nat_lt 16777216 (clamp n) ≡ nat_lt 16777216 n
over-clamp n = grind arith

too_long-clamp : (ns : List ℕ) → too_long (map clamp ns) ≡ too_long ns
too_long-clamp [] = refl
too_long-clamp (n ∷ ns) = rw (over-clamp n, too_long-clamp ns) refl

pub first_fine : (q : Bool) (o : Option ℕ) → cond q (Some 0) (option_map (λ chunk. chunk + 1) o) ≡ None → (q ≡ false) × (o ≡ None)
first_fine true o e = cc
first_fine false None e = (refl, refl)
first_fine false (Some k) e = cc

fine-clamp : (ns : List ℕ) → too_long ns ≡ None → map clamp ns ≡ ns
fine-clamp [] e = refl
fine-clamp (n ∷ ns) e =
    let p = first_fine (nat_lt 16777216 n) (too_long ns) e in
    let small : clamp n ≡ n = grind (arith, p.0) in
    let ih = fine-clamp ns p.1 in
    cc

pub fine-sum : (ns : List ℕ) → too_long ns ≡ None → sum ns ≤ length ns * 16777216
fine-sum [] e = omega arith
fine-sum (n ∷ ns) e =
    let p = first_fine (nat_lt 16777216 n) (too_long ns) e in
    let small : n ≤ 16777216 = grind (arith, p.0) in
    let s = sum_cons n ns in
    let ih = fine-sum ns p.1 in
    omega arith

judged_fine : (ns : List ℕ) (o : Option ℕ) → too_long ns ≡ o → judge_lengths (map clamp ns) o ≡ judge_lengths ns o
judged_fine ns None e = ap (λ x. Ok x) (fine-clamp ns e)
judged_fine ns (Some k) e = refl

pub judge-clamped : (o : Option (List ℕ)) → judge_numbers (clamped o) ≡ judge_numbers o
judge-clamped None = refl
judge-clamped (Some ns) = rw (length-map ns clamp, too_long-clamp ns, judged_fine ns (too_long ns) refl) refl

pub scan_judged : (text : List ℕ)
    → judge_numbers (scan None text) ≡ judge_numbers (comma_numbers text)
scan_judged text = ap judge_numbers (scan-numbers text) ∙ judge-clamped (comma_numbers text)

-- a line is judged by its numbers
pub judge_by : (line text : List ℕ) (o : Option (List ℕ)) → length line ≤ 200 → text ≡ without_cr line → o ≡ scan None text → judge_numbers o ≡ judge line
judge_by line text o n e f =
    let q : nat_lt 200 (length line) ≡ false = grind arith in
    rw q (ap judge_numbers f ∙ scan_judged text ∙ ap (λ t. judge_numbers (comma_numbers t)) e)
