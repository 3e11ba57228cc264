-- Tokens one after the other: their boundaries, and how many there are before a place and past it.
use Rattle.std.proofs.Common.{◌≡◌, ℕ, zero, suc, ◌+◌, ◌≤◌, Bool, true, false, cond, Some, List, [], ◌∷◌, ◌++◌, length, take, drop, sym, refl, ap, ◌∙◌, subst, arith}
use Rattle.std.specs.Prelude.{All, nat_lt, nat_le, find}
use Rattle.std.proofs.lemmas.Bool.{cond-true, cond-false, lt-ltb, le-ltb, le-leb, lt-leb}
use Rattle.std.proofs.lemmas.List.Sums.{sum_by-cons}
use Rattle.std.proofs.lemmas.List.Elements.{All-head, All-tail}
use Rattle.outer_syntax.specs.Tokens.{IsToken, AreTokensBetween}
use Rattle.outer_syntax.specs.Headings.{names_at}
use Rattle.outer_syntax.specs.Lexing.{tokens_of}
use Rattle.outer_syntax.specs.Stages.{after_token, after_tokens}
use Rattle.outer_syntax.specs.declared.stage.Stage.{Stage}
use Rattle.outer_syntax.specs.declared.token.Token.{Token}
use Rattle.outer_syntax.proofs.KnownLexing.{AreStaged, are-tokens}
use Rattle.command_spans.specs.CutTexts.{Rising, boundaries, boundary_at}
use Rattle.command_spans.specs.Reparsing.{before, past}

pub rising-order : (from to : ℕ) (ts : List Token) → Rising from to ts → from ≤ to
rising-order from to [] is = omega arith
rising-order from to (t ∷ ts) (starts, some, rest) = omega (arith, starts, some, rising-order t.range.stop to ts rest)

pub between-rising : (names : ℕ → List ℕ → Bool) (text : List ℕ) (from to : ℕ) (ts : List Token) → AreTokensBetween names text from to ts → Rising from to ts
between-rising names text from to [] is = is
between-rising names text from to (t ∷ ts) (starts, token, rest) = (starts, token.1, between-rising names text t.range.stop to ts rest)

pub staged-rising : (aliases : List (List ℕ)) (text : List ℕ) (s : Stage) (from to : ℕ) (ts : List Token) → AreStaged aliases text s from to ts → Rising from to ts
staged-rising aliases text s from to [] is = is
staged-rising aliases text s from to (t ∷ ts) ((starts, token), rest) = (starts, token.1, staged-rising aliases text (after_token text s t) t.range.stop to ts rest)

-- the first k tokens go up to the boundary of that number, and the others on from it
pub rising-split : (from to : ℕ) (ts : List Token) (k : ℕ) → k ≤ length ts → Rising from to ts → Rising from (boundary_at to ts k) (take k ts) × Rising (boundary_at to ts k) to (drop k ts)
rising-split from to [] zero within is = (is, refl)
rising-split from to [] (suc k) within is = absurd (omega arith)
rising-split from to (t ∷ ts) zero within (starts, some, rest) = (sym starts, (refl, some, rest))
rising-split from to (t ∷ ts) (suc k) within (starts, some, rest) =
    let more = rising-split t.range.stop to ts k (omega arith) rest in ((starts, some, more.0), more.1)

pub between-split : (names : ℕ → List ℕ → Bool) (text : List ℕ) (from to : ℕ) (ts : List Token) (k : ℕ) → k ≤ length ts → AreTokensBetween names text from to ts → AreTokensBetween names text from (boundary_at to ts k) (take k ts) × AreTokensBetween names text (boundary_at to ts k) to (drop k ts)
between-split names text from to [] zero within is = (is, refl)
between-split names text from to [] (suc k) within is = absurd (omega arith)
between-split names text from to (t ∷ ts) zero within (starts, token, rest) = (sym starts, (refl, subst (λ p. IsToken (names p) text t) (sym starts) token, rest))
between-split names text from to (t ∷ ts) (suc k) within (starts, token, rest) =
    let more = between-split names text t.range.stop to ts k (omega arith) rest in ((starts, token, more.0), more.1)

pub staged-split : (aliases : List (List ℕ)) (text : List ℕ) (s : Stage) (from to : ℕ) (ts : List Token) (k : ℕ) → k ≤ length ts → AreStaged aliases text s from to ts → AreStaged aliases text s from (boundary_at to ts k) (take k ts) × AreStaged aliases text (after_tokens text s (take k ts)) (boundary_at to ts k) to (drop k ts)
staged-split aliases text s from to [] zero within is = (is, refl)
staged-split aliases text s from to [] (suc k) within is = absurd (omega arith)
staged-split aliases text s from to (t ∷ ts) zero within ((starts, token), rest) = (sym starts, ((refl, token), rest))
staged-split aliases text s from to (t ∷ ts) (suc k) within ((starts, token), rest) =
    let more = staged-split aliases text (after_token text s t) t.range.stop to ts k (omega arith) rest in (((starts, token), more.0), more.1)

-- the first boundary is where the tokens begin
pub first-boundary : (from to : ℕ) (ts : List Token) → Rising from to ts → boundary_at to ts 0 ≡ from
first-boundary from to [] is = sym is
first-boundary from to (t ∷ ts) is = is.0

-- one where the test says yes
abbrev one_if : Bool → ℕ
one_if b = cond b 1 0

before-cons : (place : ℕ) (t : Token) (ts : List Token) → before place (t ∷ ts) ≡ one_if (nat_lt t.range.start place) + before place ts
before-cons place t ts = sum_by-cons _ t ts

past-cons : (place : ℕ) (t : Token) (ts : List Token) → past (Some place) (t ∷ ts) ≡ one_if (nat_le place t.range.start) + past (Some place) ts
past-cons place t ts = sum_by-cons _ t ts

before-none : (place from to : ℕ) (ts : List Token) → place ≤ from → Rising from to ts → before place ts ≡ 0
before-none place from to [] below is = refl
before-none place from to (t ∷ ts) below (starts, some, rest) =
    let here : one_if (nat_lt t.range.start place) ≡ 0 = cond-false (nat_lt t.range.start place) 1 0 (le-ltb t.range.start place (omega arith)) in
    omega (arith, before-cons place t ts, here, before-none place t.range.stop to ts (omega arith) rest)

-- as many tokens begin before a boundary as its number tells
pub before-at : (from to : ℕ) (ts : List Token) (k : ℕ) → k ≤ length ts → Rising from to ts → before (boundary_at to ts k) ts ≡ k
before-at from to [] zero within is = refl
before-at from to [] (suc k) within is = absurd (omega arith)
before-at from to (t ∷ ts) zero within (starts, some, rest) = before-none t.range.start t.range.start to (t ∷ ts) (omega arith) (refl, some, rest)
before-at from to (t ∷ ts) (suc k) within (starts, some, rest) =
    let place : ℕ = boundary_at to ts k in
    let above : t.range.stop ≤ place = rising-order t.range.stop place (take k ts) (rising-split t.range.stop to ts k (omega arith) rest).0 in
    let here : one_if (nat_lt t.range.start place) ≡ 1 = cond-true (nat_lt t.range.start place) 1 0 (lt-ltb t.range.start place (omega (arith, above, some))) in
    omega (arith, before-cons place t ts, here, before-at t.range.stop to ts k (omega arith) rest)

past-all : (place from to : ℕ) (ts : List Token) → place ≤ from → Rising from to ts → past (Some place) ts ≡ length ts
past-all place from to [] below is = refl
past-all place from to (t ∷ ts) below (starts, some, rest) =
    let here : one_if (nat_le place t.range.start) ≡ 1 = cond-true (nat_le place t.range.start) 1 0 (le-leb place t.range.start (omega arith)) in
    omega (arith, past-cons place t ts, here, past-all place t.range.stop to ts (omega arith) rest)

-- the tokens past a boundary are those after it
pub past-append : (from place to : ℕ) (xs ys : List Token) → Rising from place xs → Rising place to ys → past (Some place) (xs ++ ys) ≡ length ys
past-append from place to [] ys front after = past-all place place to ys (omega arith) after
past-append from place to (x ∷ xs) ys (starts, some, rest) after =
    let above : x.range.stop ≤ place = rising-order x.range.stop place xs rest in
    let here : one_if (nat_le place x.range.start) ≡ 0 = cond-false (nat_le place x.range.start) 1 0 (lt-leb place x.range.start (omega (arith, above, some))) in
    omega (arith, past-cons place x (xs ++ ys), here, past-append x.range.stop place to xs ys rest after)

-- the first boundary that passes a test
pub found-first : (test : ℕ → Bool) (place to : ℕ) (xs ys : List Token) → All (λ t. test t.range.start ≡ false) xs → test place ≡ true → Rising place to ys → find test (boundaries to (xs ++ ys)) ≡ Some place
found-first test place to [] [] none passes same = cond-true (test to) _ _ (ap test (sym same) ∙ passes) ∙ ap Some (sym same)
found-first test place to [] (y ∷ ys) none passes (starts, some, rest) = cond-true (test y.range.start) _ _ (ap test starts ∙ passes) ∙ ap Some starts
found-first test place to (x ∷ xs) ys none passes after =
    cond-false (test x.range.start) _ _ (All-head (λ (t : Token). test t.range.start ≡ false) x xs none)
    ∙ found-first test place to xs ys (All-tail (λ (t : Token). test t.range.start ≡ false) x xs none) passes after

-- the tokens of a text go from its beginning to its end
pub text-rising : (text : List ℕ) (aliases : List (List ℕ)) → Rising 0 (length text) (tokens_of text aliases)
text-rising text aliases =
    let are = are-tokens text aliases in between-rising (names_at are.1 aliases) text 0 (length text) (tokens_of text aliases) are.4
