-- Texts side by side are one text, which makes no difference to the elements around them.
use Rattle.std.proofs.Common.{◌≡◌, ◌≢◌, ℕ, ◌+◌, ◌-◌, List, [], ◌∷◌, ◌++◌, refl, ap, ◌∙◌}
use Rattle.yxml.specs.Bodies.{ClosesOpen}
use Rattle.yxml.specs.Marks.{Mark, opening, closing, words}
use Rattle.yxml.specs.Spelling.{onto, merged_texts}
use Rattle.yxml.proofs.KnownMerged.{onto_onto}

closes-onto : (d : ℕ) (s : List ℕ) (ms : List Mark) → ClosesOpen d ms → ClosesOpen d (onto (words s) ms)
closes-onto d s [] h = tt
closes-onto d s (words t ∷ ms) h = h
closes-onto d s (opening name attributes ∷ ms) h = h
closes-onto d s (closing ∷ ms) h = h

pub closes-merged : (d : ℕ) (ms : List Mark) → ClosesOpen d ms → ClosesOpen d (merged_texts ms)
closes-merged d [] h = tt
closes-merged d (opening name attributes ∷ ms) h = closes-merged (d + 1) ms h
closes-merged d (closing ∷ ms) h = (h.0, closes-merged (d - 1) ms h.1)
closes-merged d (words s ∷ ms) h = closes-onto d s (merged_texts ms) (closes-merged d ms h)

onto-closing : (m : Mark) (ms rest : List Mark) → onto m (ms ++ closing ∷ rest) ≡ onto m ms ++ closing ∷ rest
onto-closing (opening name attributes) ms rest = refl
onto-closing closing ms rest = refl
onto-closing (words s) [] rest = refl
onto-closing (words s) (words t ∷ ms) rest = refl
onto-closing (words s) (opening name attributes ∷ ms) rest = refl
onto-closing (words s) (closing ∷ ms) rest = refl

-- no text joins another one over an end tag
pub merged-closing : (ms rest : List Mark)
    → merged_texts (ms ++ closing ∷ rest) ≡ merged_texts ms ++ closing ∷ merged_texts rest
merged-closing [] rest = refl
merged-closing (m ∷ ms) rest = ap (onto m) (merged-closing ms rest) ∙ onto-closing m
    (merged_texts ms) (merged_texts rest)

-- a text before others stays one
pub words_first : (s name : List ℕ) (attributes : List _) (ms rest : List Mark) → onto (words s) ms ≢ opening name attributes ∷ rest
words_first s name attributes [] rest e = absurd (cc)
words_first s name attributes (words t ∷ ms) rest e = absurd (cc)
words_first s name attributes (opening n more ∷ ms) rest e = absurd (cc)
words_first s name attributes (closing ∷ ms) rest e = absurd (cc)

pub words_some : (s : List ℕ) (ms : List Mark) → onto (words s) ms ≢ []
words_some s [] e = absurd (cc)
words_some s (words t ∷ ms) e = absurd (cc)
words_some s (opening n more ∷ ms) e = absurd (cc)
words_some s (closing ∷ ms) e = absurd (cc)

-- marks behind a text that has been read so far
abbrev pub joined : List ℕ → List Mark → List Mark
joined [] ms = merged_texts ms
joined (b ∷ bs) ms = onto (words (b ∷ bs)) (merged_texts ms)

-- more of the text
pub joined-more : (s t : List ℕ) (ms : List Mark) → t ≢ [] → joined s (words t ∷ ms) ≡ joined (s ++ t) ms
joined-more s [] ms some = absurd (some refl)
joined-more [] (b ∷ bs) ms some = refl
joined-more (a ∷ more) (b ∷ bs) ms some = onto_onto (a ∷ more) (b ∷ bs) (merged_texts ms)

closes-unjoined : (d : ℕ) (s : List ℕ) (ms : List Mark) → ClosesOpen d (onto (words s) ms) → ClosesOpen d ms
closes-unjoined d s [] h = tt
closes-unjoined d s (words t ∷ ms) h = h
closes-unjoined d s (opening name attributes ∷ ms) h = h
closes-unjoined d s (closing ∷ ms) h = h

pub closes-unmerged : (d : ℕ) (ms : List Mark) → ClosesOpen d (merged_texts ms) → ClosesOpen d ms
closes-unmerged d [] h = tt
closes-unmerged d (opening name attributes ∷ ms) h = closes-unmerged (d + 1) ms h
closes-unmerged d (closing ∷ ms) h = (h.0, closes-unmerged (d - 1) ms h.1)
closes-unmerged d (words s ∷ ms) h = closes-unmerged d ms (closes-unjoined d s (merged_texts ms) h)
