-- What joining texts keeps, and what it gives.
use Rattle.std.proofs.Common.{◌≢◌, ℕ, ◌+◌, ◌-◌, List, [], ◌∷◌, ◌++◌, refl}
use Rattle.std.specs.List.{AllByRecursion}
use Rattle.yxml.specs.Marks.{Mark, opening, closing, words}
use Rattle.yxml.specs.Normal.{IsFit, IsApart, AreApart}
use Rattle.yxml.proofs.KnownNesting.{IsWithin}
use Rattle.yxml.specs.Spelling.{onto, merged_texts}
use Rattle.text_words.proofs.KnownLists.{each-both}

some-append : (s t : List ℕ) → s ≢ [] → s ++ t ≢ []
some-append [] t some e = some refl
some-append (b ∷ bs) t some e = absurd (cc)

onto-fit : (m : Mark) (ms : List Mark) → IsFit m → AllByRecursion IsFit ms → AllByRecursion IsFit (onto m ms)
onto-fit (words s) [] h k = (h, k)
onto-fit (words s) (words t ∷ ms) h k = ((some-append s t h.0, (each-both _ s t h.1.0 k.0.1.0, each-both _ s t h.1.1 k.0.1.1)), k.1)
onto-fit (words s) (opening name attributes ∷ ms) h k = (h, k)
onto-fit (words s) (closing ∷ ms) h k = (h, k)
onto-fit (opening name attributes) ms h k = (h, k)
onto-fit closing ms h k = (h, k)

pub merged-fit : (ms : List Mark) → AllByRecursion IsFit ms
    → AllByRecursion IsFit (merged_texts ms)
merged-fit [] h = tt
merged-fit (m ∷ ms) h = onto-fit m (merged_texts ms) h.0 (merged-fit ms h.1)

longer-apart : (s t : List ℕ) (ms : List Mark) → IsApart (words t) ms → IsApart (words (s ++ t)) ms
longer-apart s t [] h = tt
longer-apart s t (words u ∷ ms) h = h
longer-apart s t (opening name attributes ∷ ms) h = tt
longer-apart s t (closing ∷ ms) h = tt

onto-apart : (m : Mark) (ms : List Mark) → AreApart ms → AreApart (onto m ms)
onto-apart (words s) [] h = (tt, tt)
onto-apart (words s) (words t ∷ ms) h = (longer-apart s t ms h.0, h.1)
onto-apart (words s) (opening name attributes ∷ ms) h = (tt, h)
onto-apart (words s) (closing ∷ ms) h = (tt, h)
onto-apart (opening name attributes) ms h = (tt, h)
onto-apart closing ms h = (tt, h)

pub merged-apart : (ms : List Mark) → AreApart (merged_texts ms)
merged-apart [] = tt
merged-apart (m ∷ ms) = onto-apart m (merged_texts ms) (merged-apart ms)

words-within : (d : ℕ) (s : List ℕ) (ms : List Mark) → IsWithin d ms → IsWithin d (onto (words s) ms)
words-within d s [] h = tt
words-within d s (words t ∷ ms) h = h
words-within d s (opening name attributes ∷ ms) h = h
words-within d s (closing ∷ ms) h = h

pub merged-within : (d : ℕ) (ms : List Mark) → IsWithin d ms → IsWithin d (merged_texts ms)
merged-within d [] h = tt
merged-within d (opening name attributes ∷ ms) h = (h.0, merged-within (d + 1) ms h.1)
merged-within d (closing ∷ ms) h = (h.0, merged-within (d - 1) ms h.1)
merged-within d (words s ∷ ms) h = words-within d s (merged_texts ms) (merged-within d ms h)
