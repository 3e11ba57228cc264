-- Texts that are merged, and marks whose texts join nothing behind them.
use Rattle.std.proofs.Common.{◌≡◌, ℕ, List, [], ◌∷◌, ◌++◌, refl, sym, ap, ◌∙◌, append_assoc}
use Rattle.yxml.specs.Marks.{Mark, opening, closing, words}
use Rattle.yxml.specs.Spelling.{onto, merged_texts}
use Rattle.yxml.specs.Builder.{IsSettled, text_marks}
use Rattle.yxml.proofs.KnownMerged.{onto_onto}

-- it makes no difference which texts are merged first
pub merged-words : (ms : List Mark) (s t : List ℕ) (rest : List Mark)
    → merged_texts (ms ++ words (s ++ t) ∷ rest) ≡ merged_texts (ms ++ words s ∷ words t ∷ rest)
merged-words [] s t rest = sym (onto_onto s t (merged_texts rest))
merged-words (m ∷ ms) s t rest = ap (onto m) (merged-words ms s t rest)

pub settled-none : IsSettled []
settled-none = record { settled = λ rest. refl }

pub settled-append : (xs ys : List Mark) → IsSettled xs → IsSettled ys → IsSettled (xs ++ ys)
settled-append xs ys p q = record {
  settled = λ rest. ap merged_texts (append_assoc xs ys rest) ∙ p.settled (ys ++ rest)
      ∙ ap (λ zs. xs ++ zs) (q.settled rest) ∙ sym (append_assoc xs ys (merged_texts rest));
}

pub settled-opening : (text name : List ℕ) (attributes : List _) → IsSettled (text_marks text ++ opening name attributes ∷ [])
settled-opening [] name attributes = record { settled = λ rest. refl }
settled-opening (b ∷ bs) name attributes = record { settled = λ rest. refl }

pub settled-closing : (text : List ℕ) → IsSettled (text_marks text ++ closing ∷ [])
settled-closing [] = record { settled = λ rest. refl }
settled-closing (b ∷ bs) = record { settled = λ rest. refl }

-- a last text joins nothing either, where nothing follows
pub merged-last : (ms : List Mark) (text : List ℕ) → IsSettled ms
    → merged_texts (ms ++ text_marks text) ≡ ms ++ text_marks text
merged-last ms [] p = p.settled []
merged-last ms (b ∷ bs) p = p.settled (words (b ∷ bs) ∷ [])
