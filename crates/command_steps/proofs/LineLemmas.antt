-- How a text is cut into lines, and what lines tell one after the other.
use Rattle.std.proofs.Common.{◌≡◌, ℕ, suc, ◌+◌, ◌-◌, get_or, subst, ◌<◌, ◌≤◌, true, false, List, [], ◌∷◌, ◌++◌, length, take, drop, Option, Some, None, Result, Ok, Err, refl, sym, ap, ◌∙◌, arith, append_assoc}
use Rattle.std.specs.Prelude.{◌==◌}
use Rattle.std.specs.List.{list_all, slice_split, position_or_len}
use Rattle.std.proofs.lemmas.Bool.{cond-true, cond-false, eqb-true, false_from_ne_true}
use Rattle.std.proofs.lemmas.List.Splits.{slice_split_first, slice_split_none, length-slice_split}
use Rattle.std.proofs.lemmas.List.Sums.{fails_before_first}
use Rattle.isar_rules.specs.BlobLines.{Listed, is_gap, without_cr, lines_from, lines_of, fact_in, listed_before}
use Rattle.command_steps.specs.Listing.{with_line, joined}

-- a CR at the end is left out
pub cr_off : (front : List ℕ) → without_cr (front ++ 13 ∷ []) ≡ front
cr_off [] = refl
cr_off (c ∷ []) = refl
cr_off (c ∷ d ∷ more) = ap (λ line. c ∷ line) (cr_off (d ∷ more))

-- nothing else is
pub cr_kept : (front : List ℕ) (last : ℕ) → (last == 13) ≡ false → without_cr (front ++ last ∷ []) ≡ front ++ last ∷ []
cr_kept [] last other = cond-false (last == 13) [] (last ∷ []) other
cr_kept (c ∷ []) last other = ap (λ line. c ∷ line) (cr_kept [] last other)
cr_kept (c ∷ d ∷ more) last other = ap (λ line. c ∷ line) (cr_kept (d ∷ more) last other)

-- a list by its last element
last_split : (s : List ℕ) (d : ℕ) → 1 ≤ length s → s ≡ take (length s - 1) s ++ get_or s (length s - 1) d ∷ []
last_split [] d some = absurd (omega arith)
last_split (c ∷ []) d some = refl
last_split (c ∷ e ∷ more) d some =
    let next : length (c ∷ e ∷ more) - 1 ≡ suc (length (e ∷ more) - 1) = omega arith in
    subst (λ k. c ∷ e ∷ more ≡ take k (c ∷ e ∷ more) ++ get_or (c ∷ e ∷ more) k d ∷ []) (sym next)
    (ap (λ r. c ∷ r) (last_split (e ∷ more) d (omega arith)))

-- the same by the last scalar
pub return_off : (s : List ℕ) (d : ℕ) → 1 ≤ length s → get_or s (length s - 1) d ≡ 13 → take (length s - 1) s ≡ without_cr s
return_off s d some is =
    sym (ap without_cr (last_split s d some ∙ ap (λ c. take (length s - 1) s ++ c ∷ []) is) ∙ cr_off (take (length s - 1) s))

pub no_return : (s : List ℕ) (d : ℕ) → 1 ≤ length s → (get_or s (length s - 1) d ≡ 13 → ⊥) → s ≡ without_cr s
no_return s d some other =
    let last : ℕ = get_or s (length s - 1) d in
    let differs : (last == 13) ≡ false = false_from_ne_true (last == 13) (λ same. other (eqb-true last 13 same)) in
    last_split s d some ∙ (sym (cr_kept (take (length s - 1) s) last differs) ∙ ap without_cr (sym (last_split s d some)))

lines_first : (line : List ℕ) (parts : List (List ℕ)) → 0 < length parts → lines_from (line ∷ parts) ≡ without_cr line ∷ lines_from parts
lines_first line [] some = absurd (omega arith)
lines_first line (next ∷ more) some = refl

-- the first line ends at the first LF
pub lines_cut : (text : List ℕ) (n : ℕ) → n ≡ position_or_len (λ c. c == 10) text → n < length text
    → lines_of text ≡ without_cr (take n text) ∷ lines_of (drop (n + 1) text)
lines_cut text n first inside =
    rw first (ap lines_from (slice_split_first (λ c. c == 10) text 0 (omega arith))
    ∙ lines_first _ (slice_split (λ c. c == 10) (drop (position_or_len (λ c. c == 10) text + 1) text))
    (omega (arith, length-slice_split (λ c. c == 10) (drop (position_or_len (λ c. c == 10) text + 1) text))))

-- a text without LF is one line
pub lines_last : (text : List ℕ) (n : ℕ) → n ≡ position_or_len (λ c. c == 10) text → length text ≤ n
    → lines_of text ≡ text ∷ []
lines_last text n first past =
    ap lines_from (slice_split_none (λ c. c == 10) text (λ k d within. fails_before_first (λ c. c == 10) text k d (omega arith)))

-- a blank line tells nothing
pub blank_told : (old : List Listed) (number : ℕ) (line : List ℕ) → list_all is_gap line ≡ true
    → (later : Result (List Listed) ℕ) → joined old (with_line number line later) ≡ joined old later
blank_told old number line blank later = ap (joined old) (cond-true (list_all is_gap line) later (listed_before number (fact_in line) later) blank)

unblank : (number : ℕ) (line : List ℕ) (found : Option Listed) → list_all is_gap line ≡ false → found ≡ fact_in line
    → (later : Result (List Listed) ℕ)
    → with_line number line later ≡ listed_before number found later
unblank number line found other is later =
    cond-false (list_all is_gap line) later (listed_before number (fact_in line) later) other ∙ ap (λ f. listed_before number f later) (sym is)

joined_more : (old : List Listed) (number : ℕ) (fact : Listed) (later : Result (List Listed) ℕ)
    → joined old (listed_before number (Some fact) later) ≡ joined (old ++ fact ∷ []) later
joined_more old number fact (Ok more) = ap Ok (sym (append_assoc old (fact ∷ []) more))
joined_more old number fact (Err line) = refl

-- a fact is the next one
pub fact_told : (old new : List Listed) (number : ℕ) (line : List ℕ) (fact : Listed) → list_all is_gap line ≡ false
    → Some fact ≡ fact_in line → new ≡ old ++ fact ∷ []
    → (later : Result (List Listed) ℕ) → joined old (with_line number line later) ≡ joined new later
fact_told old new number line fact other is grown later =
    ap (joined old) (unblank number line (Some fact) other is later)
    ∙ (joined_more old number fact later ∙ ap (λ facts. joined facts later) (sym grown))

-- another line is bad
pub bad_told : (old : List Listed) (number : ℕ) (line : List ℕ) → list_all is_gap line ≡ false → None ≡ fact_in line
    → (later : Result (List Listed) ℕ) → joined old (with_line number line later) ≡ Err number
bad_told old number line other is later = ap (joined old) (unblank number line None other is later)
