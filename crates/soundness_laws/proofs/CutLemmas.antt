-- Tokens are cut behind a command.
use Rattle.std.proofs.Common.{◌≡◌, ℕ, zero, suc, ◌+◌, ◌≤◌, Bool, true, false, List, [], ◌∷◌, ◌++◌, length, take, drop, Some, sym, refl, ap, ◌∙◌, subst, arith, length-take-le}
use Rattle.std.specs.Prelude.{slice_get}
use Rattle.std.specs.List.{slice_index_or}
use Rattle.std.proofs.lemmas.Bool.{cond-true, cond-false}
use Rattle.std.proofs.lemmas.List.{take-append-drop}
use Rattle.pide_base.specs.declared.range.Range.{Range}
use Rattle.outer_syntax.specs.Kinds.{is_proper}
use Rattle.outer_syntax.specs.declared.token.Token.{Token}
use Rattle.command_spans.specs.Spans.{proper_token}
use Rattle.command_spans.specs.Cutting.{run_size, improper_size, rest_size, first_span, spans_from}
use Rattle.soundness_laws.proofs.SpanSizes.{EndsProper, Waits, ends_more, run-over, improper-over, run-low}
use Rattle.soundness_laws.proofs.SpanLemmas.{ranges, ranges-ignored, ranges-counted}
use Rattle.soundness_laws.proofs.InsertedRuns.{last_end, last-more, run-ends, run-waits-behind}

-- tokens cut behind the command of a number
pub record Cut (j : ℕ) (ts : List Token) (k : ℕ) (r : Range) : Type 0 where
  pub front : List Token
  pub back : List Token
  pub is : ts ≡ front ++ back
  pub ends : EndsProper front
  pub last : last_end front ≡ r.stop
  pub waits : Waits back
  pub count : length (ranges (spans_from j front)) ≡ k + 1

-- one token more before the cut
cut-on : {i j : ℕ} {k l : ℕ} (t : Token) (ts : List Token) (r : Range) (c : Cut i ts k r) → length (ranges (spans_from j (t ∷ c.front))) ≡ l + 1 → Cut j (t ∷ ts) l r
cut-on t ts r c count = record {
  front = t ∷ c.front;
  back = c.back;
  is = ap (λ xs. t ∷ xs) c.is;
  ends = ends_more t c.front c.ends;
  last = last-more t c.front c.ends ∙ c.last;
  waits = c.waits;
  count = count;
}

cut-improper : (t : Token) (ts : List Token) (k : ℕ) (r : Range) → is_proper t.kind ≡ false → Cut (improper_size ts) ts k r → Cut zero (t ∷ ts) k r
cut-improper t ts k r improper c =
    let size : improper_size ts ≡ improper_size c.front = ap improper_size c.is ∙ improper-over c.front c.back c.ends in
    cut-on t ts r c
    (ap length (ranges-ignored t c.front (spans_from (rest_size t c.front) c.front) improper)
    ∙ ap (λ n. length (ranges (spans_from n c.front))) (cond-false (proper_token t) (run_size c.front) (improper_size c.front) improper ∙ sym size) ∙ c.count)

cut-later : (t : Token) (ts : List Token) (k : ℕ) (r : Range) → is_proper t.kind ≡ true → Cut (run_size ts) ts k r → Cut zero (t ∷ ts) (suc k) r
cut-later t ts k r proper c =
    let size : run_size ts ≡ run_size c.front = ap run_size c.is ∙ run-over c.front c.back c.waits in
    let more : suc (k + 1) ≡ suc k + 1 = omega arith in
    cut-on t ts r c
    (ap length (ranges-counted t c.front (spans_from (rest_size t c.front) c.front) proper)
    ∙ ap (λ n. suc (length (ranges (spans_from n c.front)))) (cond-true (proper_token t) (run_size c.front) (improper_size c.front) proper ∙ sym size)
    ∙ ap suc c.count ∙ more)

-- all tokens are left out
pub all-out : (ts : List Token) (n : ℕ) → length ts ≤ n → spans_from n ts ≡ []
all-out [] n low = refl
all-out (t ∷ ts) zero low = absurd (omega (arith, low))
all-out (t ∷ ts) (suc n) low = all-out ts n (omega (arith, low))

cut-here : (t : Token) (ts : List Token) (r : Range) → is_proper t.kind ≡ true → (first_span t ts).range.stop ≡ r.stop → Cut zero (t ∷ ts) 0 r
cut-here t ts r proper stop =
    let size : rest_size t ts ≡ run_size ts = cond-true (proper_token t) (run_size ts) (improper_size ts) proper in
    let xs : List Token = take (run_size ts) ts in
    let whole : ts ≡ xs ++ drop (run_size ts) ts = sym (take-append-drop (run_size ts) ts) in
    let own : run_size ts ≡ run_size xs = ap run_size whole ∙ run-over xs (drop (run_size ts) ts) (run-waits-behind ts) in
    let full : length xs ≡ run_size ts = length-take-le (run_size ts) ts (run-low ts) in
    let ends = go (run_size ts) refl in
    record {
      front = t ∷ xs;
      back = drop (run_size ts) ts;
      is = ap (λ ys. t ∷ ys) whole;
      ends = ends.0;
      last = ends.1 ∙ ap (λ n. (slice_index_or (t ∷ ts) n t).range.stop) (sym size) ∙ stop;
      waits = run-waits-behind ts;
      count =
          ap length (ranges-counted t xs (spans_from (rest_size t xs) xs) proper)
          ∙ ap (λ n. suc (length (ranges (spans_from n xs)))) (cond-true (proper_token t) (run_size xs) (improper_size xs) proper)
          ∙ ap (λ ss. suc (length (ranges ss))) (all-out xs (run_size xs) (omega (arith, full, own)));
    }
  where
    go : (n : ℕ) → run_size ts ≡ n → EndsProper (t ∷ take (run_size ts) ts) × (last_end (t ∷ take (run_size ts) ts) ≡ (slice_index_or (t ∷ ts) (run_size ts) t).range.stop)
    go zero e = subst (λ n. EndsProper (t ∷ take n ts) × (last_end (t ∷ take n ts) ≡ (slice_index_or (t ∷ ts) n t).range.stop)) (sym e) (proper, refl)
    go (suc n) e =
        let run = run-ends ts n e in
        subst (λ n. EndsProper (t ∷ take n ts) × (last_end (t ∷ take n ts) ≡ (slice_index_or (t ∷ ts) n t).range.stop)) (sym e)
        (ends_more t (take (suc n) ts) run.ends, last-more t (take (suc n) ts) run.ends ∙ run.last t)

same-range : (a b : Range) → Some a ≡ Some b → a.stop ≡ b.stop
same-range a b e = let same : a ≡ b = cc (e) in ap (λ r. r.stop) same

-- tokens can be cut behind each command
pub cut-at : (j : ℕ) (ts : List Token) (k : ℕ) (r : Range) → slice_get (ranges (spans_from j ts)) k ≡ Some r → Cut j ts k r
cut-at j [] k r found = absurd (cc (found))
cut-at (suc j) (t ∷ ts) k r found = let c = cut-at j ts k r found in cut-on t ts r c c.count
cut-at zero (t ∷ ts) k r found = go (is_proper t.kind) refl k found (λ (n m : ℕ) (e : slice_get (ranges (spans_from n ts)) m ≡ Some r). cut-at n ts m r e)
  where
    go : (b : Bool) → is_proper t.kind ≡ b → (k : ℕ) → slice_get (ranges (first_span t ts ∷ spans_from (rest_size t ts) ts)) k ≡ Some r
        → ((n m : ℕ) → slice_get (ranges (spans_from n ts)) m ≡ Some r → Cut n ts m r) → Cut zero (t ∷ ts) k r
    go true proper zero found more = cut-here t ts r proper (same-range (first_span t ts).range r (ap (λ rs. slice_get rs 0) (sym (ranges-counted t ts (spans_from (rest_size t ts) ts) proper)) ∙ found))
    go true proper (suc k) found more =
        cut-later t ts k r proper (more (run_size ts) k
        (ap (λ n. slice_get (ranges (spans_from n ts)) k) (sym (cond-true (proper_token t) (run_size ts) (improper_size ts) proper))
        ∙ ap (λ rs. slice_get rs (suc k)) (sym (ranges-counted t ts (spans_from (rest_size t ts) ts) proper)) ∙ found))
    go false improper k found more =
        cut-improper t ts k r improper (more (improper_size ts) k
        (ap (λ n. slice_get (ranges (spans_from n ts)) k) (sym (cond-false (proper_token t) (run_size ts) (improper_size ts) improper))
        ∙ ap (λ rs. slice_get rs k) (sym (ranges-ignored t ts (spans_from (rest_size t ts) ts) improper)) ∙ found))
