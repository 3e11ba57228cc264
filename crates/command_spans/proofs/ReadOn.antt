-- What comes of tokens at a boundary, and of one more.
use Rattle.std.proofs.Common.{◌≡◌, ℕ, zero, suc, ◌<◌, ◌≤◌, true, false, None, Some, List, [], ◌∷◌, length, get_or, take, drop, ◌++◌, sym, refl, ap, ◌∙◌, arith}
use Rattle.std.proofs.lemmas.List.{take-take, take-append-drop}
use Rattle.std.specs.Prelude.{nat_lt, slice_get, ◌&&◌}
use Rattle.std.proofs.lemmas.Bool.{lt-ltb}
use Rattle.outer_syntax.specs.Stages.{after_token, after_tokens}
use Rattle.outer_syntax.specs.declared.kind.Kind.TheVariants as kind
use Rattle.outer_syntax.specs.declared.stage.Stage.{Stage}
use Rattle.outer_syntax.specs.declared.stage.Stage.TheVariants.{Start, Ended, Absent}
use Rattle.outer_syntax.specs.declared.token.Token.{Token}
use Rattle.outer_syntax.proofs.KnownReading.{ended-stays, absent-stays}
use Rattle.command_spans.specs.CutTexts.{boundary_at}
use Rattle.command_spans.specs.Reparsing.{is_space, is_space_below}

-- what a look-up past the end gives
abbrev pub no_token : Token
no_token = record { kind = kind.Space; range = record { start = 0; stop = 0 } }

-- a boundary is where its token begins
pub boundary-is : (to : ℕ) (ts : List Token) (k : ℕ) (d : Token) → k < length ts → boundary_at to ts k ≡ (get_or ts k d).range.start
boundary-is to [] k d below = absurd (omega arith)
boundary-is to (t ∷ ts) zero d below = refl
boundary-is to (t ∷ ts) (suc k) d below = boundary-is to ts k d (omega arith)

-- past the last token it is the end
pub boundary-end : (to : ℕ) (ts : List Token) (k : ℕ) → length ts ≤ k → boundary_at to ts k ≡ to
boundary-end to [] k past = refl
boundary-end to (t ∷ ts) zero past = absurd (omega arith)
boundary-end to (t ∷ ts) (suc k) past = boundary-end to ts k (omega arith)

-- the same by what a look-up gave
pub boundary-got : (to : ℕ) (ts : List Token) (k : ℕ) (t : Token) → slice_get ts k ≡ Some t → boundary_at to ts k ≡ t.range.start
boundary-got to [] k t got = absurd (cc (got))
boundary-got to (u ∷ ts) zero t got = let same : u ≡ t = cc (got) in ap (λ (x : Token). x.range.start) same
boundary-got to (u ∷ ts) (suc k) t got = boundary-got to ts k t got

pub boundary-none : (to : ℕ) (ts : List Token) (k : ℕ) → slice_get ts k ≡ None → boundary_at to ts k ≡ to
boundary-none to [] k got = refl
boundary-none to (u ∷ ts) zero got = absurd (cc (got))
boundary-none to (u ∷ ts) (suc k) got = boundary-none to ts k got

-- a space that begins below the place passes the test
pub space-below : (place : ℕ) (t : Token) → is_space t.kind ≡ true → t.range.start < place → is_space_below place t ≡ true
space-below place t space below = λ i. space i && lt-ltb t.range.start place below i

-- another token doesn't
pub space-other : (place : ℕ) (t : Token) → is_space t.kind ≡ false → is_space_below place t ≡ false
space-other place t other = ap (λ b. b && nat_lt t.range.start place) other

-- nothing changes a stage at which the header has ended, or the text has none
pub ended-after : (text : List ℕ) (ts : List Token) → after_tokens text Ended ts ≡ Ended
ended-after text [] = refl
ended-after text (t ∷ ts) = ap (λ s. after_tokens text s ts) (ended-stays text t) ∙ ended-after text ts

pub absent-after : (text : List ℕ) (ts : List Token) → after_tokens text Absent ts ≡ Absent
absent-after text [] = refl
absent-after text (t ∷ ts) = ap (λ s. after_tokens text s ts) (absent-stays text t) ∙ absent-after text ts

-- tokens one after the other
pub after-append : (text : List ℕ) (s : Stage) (ts us : List Token) → after_tokens text s (ts ++ us) ≡ after_tokens text (after_tokens text s ts) us
after-append text s [] us = refl
after-append text s (t ∷ ts) us = after-append text (after_token text s t) ts us

-- where the first tokens come to a stage that nothing changes, more of them come to it
pub read-on : (text : List ℕ) (s : Stage) (ts : List Token) (read n : ℕ) → read ≤ n → s ≡ after_tokens text Start (take read ts) → ((more : List Token) → after_tokens text s more ≡ s) → after_tokens text Start (take n ts) ≡ s
read-on text s ts read n from is over =
    let more : List Token = drop read (take n ts) in
    let front : take read (take n ts) ≡ take read ts = take-take read n ts from in
    ap (after_tokens text Start) (sym (take-append-drop read (take n ts)) ∙ ap (λ (us : List Token). us ++ more) front)
    ∙ after-append text Start (take read ts) more ∙ ap (λ (x : Stage). after_tokens text x more) (sym is) ∙ over more
