-- Marks whose texts are merged.
use Rattle.std.proofs.Common.{◌≡◌, ℕ, List, [], ◌∷◌, ◌++◌, refl, sym, ap, append_assoc, ◌+◌, ◌-◌, ◌∙◌}
use Rattle.yxml.specs.Spelling.{onto, merged_texts}
use Rattle.yxml.specs.Marks.{Mark, opening, closing, words, open_after}

-- two texts are put before marks as their join is
pub onto_onto : (s t : List ℕ) (ms : List Mark) → onto (words s) (onto (words t) ms) ≡ onto (words (s ++ t)) ms
onto_onto s t [] = refl
onto_onto s t (opening name attributes ∷ ms) = refl
onto_onto s t (closing ∷ ms) = refl
onto_onto s t (words u ∷ ms) = ap (λ x. words x ∷ ms) (sym (append_assoc s t u))

-- a text opens and closes nothing
pub words_open : (d : ℕ) (s : List ℕ) (ms : List Mark) → open_after d (onto (words s) ms) ≡ open_after d ms
words_open d s [] = refl
words_open d s (words t ∷ ms) = refl
words_open d s (opening name attributes ∷ ms) = refl
words_open d s (closing ∷ ms) = refl

-- merging texts opens and closes nothing
pub merged_open : (d : ℕ) (ms : List Mark) → open_after d (merged_texts ms) ≡ open_after d ms
merged_open d [] = refl
merged_open d (opening name attributes ∷ ms) = merged_open (d + 1) ms
merged_open d (closing ∷ ms) = merged_open (d - 1) ms
merged_open d (words s ∷ ms) = words_open d s (merged_texts ms) ∙ merged_open d ms
