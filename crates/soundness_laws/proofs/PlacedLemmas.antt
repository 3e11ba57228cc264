-- Where the commands of tokens stand, and what stands there.
use Rattle.std.proofs.Common.{◌≡◌, ℕ, zero, suc, ◌+◌, ◌-◌, ◌<◌, ◌≤◌, Bool, true, false, cond, List, [], ◌∷◌, ◌++◌, length, take, drop, map, filter, sym, refl, ap, ◌∙◌, arith, length-drop}
use Rattle.std.specs.List.{AllByRecursion, slice_index_or}
use Rattle.std.proofs.lemmas.Bool.{cond-true}
use Rattle.std.proofs.lemmas.List.{take-append-le, drop-append-le}
use Rattle.pide_base.specs.declared.range.Range.{Range}
use Rattle.outer_syntax.specs.Kinds.{is_proper, is_command}
use Rattle.outer_syntax.specs.Stages.{after_token}
use Rattle.outer_syntax.specs.declared.stage.Stage.{Stage}
use Rattle.outer_syntax.specs.declared.token.Token.{Token}
use Rattle.outer_syntax.proofs.KnownLexing.{AreStaged, staged-rises}
use Rattle.command_spans.specs.Spans.{proper_token}
use Rattle.command_spans.specs.Cutting.{one_more, run_size, improper_size, rest_size, first_span, spans_from, spans_of}
use Rattle.buffer_rules.specs.Cuts.{is_command as is_command_span, source}
use Rattle.soundness_laws.proofs.SpanSizes.{EndsProper, rest-low, run-proper, run-improper}
use Rattle.soundness_laws.proofs.SpanLemmas.{ranges, ranges-counted}
use Rattle.soundness_laws.proofs.InsertedRuns.{last_end}
use Rattle.soundness_laws.proofs.CutLemmas.{all-out}
use Rattle.soundness_laws.proofs.MovedLemmas.{shift}

-- the range stands between the places
abbrev pub Between : ℕ → ℕ → Range → Type 0
Between from to r = (from ≤ r.start) × (r.start ≤ r.stop) × (r.stop ≤ to)

index-between : (names : List (List ℕ)) (text : List ℕ) (s : Stage) (from to : ℕ) (ts : List Token) (n : ℕ) (d : Token) → AreStaged names text s from to ts
    → n < length ts → (from ≤ (slice_index_or ts n d).range.stop) × ((slice_index_or ts n d).range.stop ≤ to)
index-between names text s from to [] n d is low = absurd (omega (arith, low))
index-between names text s from to (t ∷ ts) zero d is low =
    (omega (arith, is.0.0, is.0.1.1), staged-rises names text (after_token text s t) t.range.stop to ts is.1)
index-between names text s from to (t ∷ ts) (suc n) d is low =
    let later = index-between names text (after_token text s t) t.range.stop to ts n d is.1 (omega (arith, low)) in
    (omega (arith, later.0, is.0.0, is.0.1.1), later.1)

weaker : (from before to : ℕ) → before ≤ from → (rs : List Range) → AllByRecursion (Between from to) rs → AllByRecursion (Between before to) rs
weaker from before to low [] all = tt
weaker from before to low (r ∷ rs) all = ((omega (arith, low, all.0.0), all.0.1, all.0.2), weaker from before to low rs all.1)

-- the commands of tokens stand where the tokens do
pub ranges-between : (names : List (List ℕ)) (text : List ℕ) (s : Stage) (from to j : ℕ) (ts : List Token) → AreStaged names text s from to ts
    → AllByRecursion (Between from to) (ranges (spans_from j ts))
ranges-between names text s from to j [] is = tt
ranges-between names text s from to (suc j) (t ∷ ts) is =
    weaker t.range.stop from to (omega (arith, is.0.0, is.0.1.1)) _ (ranges-between names text (after_token text s t) t.range.stop to j ts is.1)
ranges-between names text s from to zero (t ∷ ts) is =
    let more = weaker t.range.stop from to (omega (arith, is.0.0, is.0.1.1)) _ (ranges-between names text (after_token text s t) t.range.stop to (rest_size t ts) ts is.1) in
    let last = index-between names text s from to (t ∷ ts) (rest_size t ts) t is (omega (arith, rest-low t ts)) in
    go (is_command_span (first_span t ts).kind) (omega (arith, is.0.0), omega (arith, is.0.0, last.0), last.1) more
  where
    go : (b : Bool) → Between from to (first_span t ts).range → AllByRecursion (Between from to) (ranges (spans_from (rest_size t ts) ts))
        → AllByRecursion (Between from to) (map (λ x. x.range) (cond b (first_span t ts ∷ filter (λ x. is_command_span x.kind) (spans_from (rest_size t ts) ts)) (filter (λ x. is_command_span x.kind) (spans_from (rest_size t ts) ts))))
    go true here more = (here, more)
    go false here more = more

pub staged-end : (names : List (List ℕ)) (text : List ℕ) (s : Stage) (from to : ℕ) (ts : List Token) → EndsProper ts → AreStaged names text s from to ts → last_end ts ≡ to
staged-end names text s from to [] ends is = absurd ends
staged-end names text s from to (t ∷ []) ends is = is.1
staged-end names text s from to (t ∷ u ∷ ts) ends is = staged-end names text (after_token text s t) t.range.stop to (u ∷ ts) ends is.1

-- what no other command ends runs to the end
run-all : (t : Token) (ts : List Token) → AllByRecursion (λ u. is_command u.kind ≡ false) ts → EndsProper (t ∷ ts) → run_size ts ≡ length ts
run-all t [] none ends = refl
run-all t (u ∷ []) none ends = run-proper u [] none.0 ends
run-all t (u ∷ v ∷ ts) none ends = go (is_proper u.kind) refl (run-all u (v ∷ ts) none.1 ends)
  where
    go : (b : Bool) → is_proper u.kind ≡ b → run_size (v ∷ ts) ≡ suc (length ts) → run_size (u ∷ v ∷ ts) ≡ suc (suc (length ts))
    go true proper e = run-proper u (v ∷ ts) none.0 proper ∙ ap suc e
    go false improper e = run-improper u (v ∷ ts) improper ∙ ap one_more e

last-index : (t d : Token) (ts : List Token) → (slice_index_or (t ∷ ts) (length ts) d).range.stop ≡ last_end (t ∷ ts)
last-index t d [] = refl
last-index t d (u ∷ ts) = last-index u d ts

-- the only command of a command's tokens is all of them
pub one-range : (t : Token) (ts : List Token) → is_proper t.kind ≡ true → AllByRecursion (λ u. is_command u.kind ≡ false) ts → EndsProper (t ∷ ts)
    → ranges (spans_of (t ∷ ts)) ≡ record { start = t.range.start; stop = last_end (t ∷ ts) } ∷ []
one-range t ts proper none ends =
    let size : rest_size t ts ≡ length ts = cond-true (proper_token t) (run_size ts) (improper_size ts) proper ∙ run-all t ts none ends in
    let stop : (slice_index_or (t ∷ ts) (rest_size t ts) t).range.stop ≡ last_end (t ∷ ts) = ap (λ n. (slice_index_or (t ∷ ts) n t).range.stop) size ∙ last-index t t ts in
    ranges-counted t ts (spans_from (rest_size t ts) ts) proper
    ∙ (λ i. record { start = t.range.start; stop = stop i } ∷ ranges (spans_from (size i) ts))
    ∙ ap (λ ss. record { start = t.range.start; stop = last_end (t ∷ ts) } ∷ ranges ss) (all-out ts (length ts) (omega arith))

-- sources that stand before a place are those of each text with the same front
pub same-sources : (p x y : List ℕ) (from : ℕ) (rs : List Range) → AllByRecursion (Between from (length p)) rs → map (source (p ++ x)) rs ≡ map (source (p ++ y)) rs
same-sources p x y from [] all = refl
same-sources p x y from (r ∷ rs) all =
    let within : r.start ≤ length p = omega (arith, all.0.1, all.0.2) in
    let fits : r.stop - r.start ≤ length (drop r.start p) = omega (arith, length-drop r.start p, all.0.1, all.0.2) in
    let here : source (p ++ x) r ≡ source (p ++ y) r =
    ap (take (r.stop - r.start)) (drop-append-le r.start p x within) ∙ take-append-le (r.stop - r.start) (drop r.start p) x fits
    ∙ sym (ap (take (r.stop - r.start)) (drop-append-le r.start p y within) ∙ take-append-le (r.stop - r.start) (drop r.start p) y fits) in
    λ i. here i ∷ same-sources p x y from rs all.1 i

-- sources that stand behind one are those of a text where the same follows further on
pub shifted-sources : (old new : List ℕ) (place d : ℕ) → ((at : ℕ) → place ≤ at → drop at old ≡ drop (at + d) new) → (to : ℕ) (rs : List Range) → AllByRecursion (Between place to) rs
    → map (source new) (map (shift d) rs) ≡ map (source old) rs
shifted-sources old new place d same to [] all = refl
shifted-sources old new place d same to (r ∷ rs) all =
    let size : r.stop + d - (r.start + d) ≡ r.stop - r.start = omega arith in
    let here : source new (shift d r) ≡ source old r = λ i. take (size i) (sym (same r.start all.0.0) i) in
    λ i. here i ∷ shifted-sources old new place d same to rs all.1 i
