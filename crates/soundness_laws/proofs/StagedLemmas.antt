-- Tokens that are read from the left, taken apart, and under which stages they are the same.
use Rattle.std.proofs.Common.{◌≡◌, ◌⊎◌, inl, inr, ℕ, Bool, true, false, List, [], ◌∷◌, ◌++◌, sym, refl, ap, ◌∙◌, subst}
use Rattle.std.specs.List.{AllByRecursion}
use Rattle.std.proofs.lemmas.Bool.{cond-true, cond-false}
use Rattle.outer_syntax.specs.Kinds.{is_proper}
use Rattle.outer_syntax.specs.Stages.{after_word, after_token, after_tokens, is_ended, given}
use Rattle.outer_syntax.specs.Tokens.{IsToken, AreTokensBetween, text_of}
use Rattle.outer_syntax.specs.Words.{is_in_force}
use Rattle.outer_syntax.specs.declared.stage.Stage.{Stage}
use Rattle.outer_syntax.specs.declared.stage.Stage.TheVariants.{Ended, Absent}
use Rattle.outer_syntax.specs.declared.token.Token.{Token}
use Rattle.outer_syntax.proofs.KnownStages.{ended-is}
use Rattle.outer_syntax.proofs.KnownReading.{is_start, started, IsOn, no-header, absent-stays}
use Rattle.outer_syntax.proofs.KnownLexing.{AreStaged, given-none}
use Rattle.soundness_laws.specs.Insertion.{is_error, EndsWell}
use Rattle.soundness_laws.proofs.SpanSizes.{EndsProper, Waits}
use Rattle.soundness_laws.proofs.InsertedRuns.{last_end}

pub staged-cut : (names : List (List ℕ)) (text : List ℕ) (s : Stage) (from to : ℕ) (xs ys : List Token) → EndsProper xs → AreStaged names text s from to (xs ++ ys)
    → AreStaged names text s from (last_end xs) xs × AreStaged names text (after_tokens text s xs) (last_end xs) to ys
staged-cut names text s from to [] ys ends is = absurd ends
staged-cut names text s from to (t ∷ []) ys ends is = ((is.0, refl), is.1)
staged-cut names text s from to (t ∷ u ∷ xs) ys ends is =
    let more = staged-cut names text (after_token text s t) t.range.stop to (u ∷ xs) ys ends is.1 in ((is.0, more.0), more.1)

-- the last of the tokens is no error
pub ends-well : (xs ys : List Token) (place : ℕ) → EndsProper xs → last_end xs ≡ place → AllByRecursion (λ t. t.range.stop ≡ place → is_error t.kind ≡ false) (xs ++ ys) → EndsWell xs
ends-well [] ys place ends last all = absurd ends
ends-well (t ∷ []) ys place ends last all = (ends, all.0 last)
ends-well (t ∷ u ∷ xs) ys place ends last all = ends-well (u ∷ xs) ys place ends last all.1

-- behind a proper token the header's reading has begun
pub has-started : (text : List ℕ) (s : Stage) (ts : List Token) → EndsProper ts → is_start (after_tokens text s ts) ≡ false
has-started text s [] ends = absurd ends
has-started text s (t ∷ []) ends = ap is_start (cond-true (is_proper t.kind) (after_word s (t.kind, text_of text t)) s ends) ∙ started s (t.kind, text_of text t)
has-started text s (t ∷ u ∷ ts) ends = has-started text (after_token text s t) (u ∷ ts) ends

-- behind its beginning a header is read to its end, or is being read, or there is none
pub ended-or-on : (s : Stage) → is_start s ≡ false → (s ≡ Ended) ⊎ IsOn s
ended-or-on Ended e = inl refl
ended-or-on s e = go (is_ended s) refl
  where
    go : (b : Bool) → is_ended s ≡ b → (s ≡ Ended) ⊎ IsOn s
    go true is = inl (ended-is s is)
    go false is = inr (record { no_start = e; no_end = is })

pub on-given : (s : Stage) (names : List (List ℕ)) → IsOn s → given s names ≡ []
on-given s names on = given-none s names on.no_end

-- where no token changes the stage, the tokens are those under the names that it gives
pub staged-steady : (names : List (List ℕ)) (text : List ℕ) (s : Stage) → ((t : Token) → after_token text s t ≡ s) → (from to : ℕ) (ts : List Token)
    → AreTokensBetween (λ _. is_in_force (given s names)) text from to ts → AreStaged names text s from to ts
staged-steady names text s stays from to [] is = is
staged-steady names text s stays from to (t ∷ ts) is =
    ((is.0, is.1), subst (λ n. AreStaged names text n t.range.stop to ts) (sym (stays t)) (staged-steady names text s stays t.range.stop to ts is.2))

pub after-steady : (text : List ℕ) (s : Stage) → ((t : Token) → after_token text s t ≡ s) → (ts : List Token) → after_tokens text s ts ≡ s
after-steady text s stays [] = refl
after-steady text s stays (t ∷ ts) = ap (λ n. after_tokens text n ts) (stays t) ∙ after-steady text s stays ts

-- what waits for a command is read alike while a header is read and where there is none
pub restaged : (names : List (List ℕ)) (text : List ℕ) (s : Stage) (from to : ℕ) (ts : List Token) → IsOn s → Waits ts → AreStaged names text s from to ts → AreStaged names text Absent from to ts
restaged names text s from to [] on w is = is
restaged names text s from to (t ∷ ts) on (inl command) is = (
  (is.0.0, subst (λ g. IsToken (is_in_force g) text t) (on-given s names on) is.0.1),
  subst (λ n. AreStaged names text n t.range.stop to ts) (no-header text s t on command ∙ sym (absent-stays text t)) is.1,
)
restaged names text s from to (t ∷ ts) on (inr (improper, w)) is =
    let stays : after_token text s t ≡ s = cond-false (is_proper t.kind) (after_word s (t.kind, text_of text t)) s improper in (
      (is.0.0, subst (λ g. IsToken (is_in_force g) text t) (on-given s names on) is.0.1),
      subst (λ n. AreStaged names text n t.range.stop to ts) (sym (absent-stays text t))
          (restaged names text s t.range.stop to ts on w (subst (λ n. AreStaged names text n t.range.stop to ts) stays is.1)),
    )
