-- The body at a place, by its marks.
use Rattle.std.specs.Borrow.{Bor}
use Rattle.std.proofs.Common.{◌≡◌, ◌≢◌, ℕ, List, [], ◌∷◌, ◌++◌, refl, sym, ap, ◌∙◌, append_assoc}
use Rattle.yxml.specs.declared.tree.Attribute.{Attribute}
use Rattle.yxml.specs.declared.tree.Tree.{Tree}
use Rattle.yxml.specs.declared.tree.Tree.TheVariants.{Elem}
use Rattle.yxml.specs.Bodies.{body_of}
use Rattle.yxml.specs.Marks.{Mark, opening, closing, words, marks, open_after}
use Rattle.yxml.proofs.KnownBuilding.{balanced-marks}
use Rattle.yxml.proofs.KnownMarks.{tree_marks-Elem}
use Rattle.yxml.proofs.KnownRebuilt.{same_from_marks}
use Rattle.yxml.specs.Reading.{marks_in}
use Rattle.yxml.specs.Spelling.{onto, merged_texts}
use Rattle.yxml.proofs.KnownMerged.{merged_open}
use Rattle.message_values.specs.declared.mark.LentMark.{LentMark}
use Rattle.message_values.specs.declared.mark.LentMark.TheVariants.{Opening, Closing, Words}
use Rattle.message_values.specs.LentMarks.{mark}
use Rattle.message_values.specs.Inside.{inside, behind, body_at, IsClosed}
use Rattle.message_values.proofs.Inside.{Ends, ends, closes-inside}
use Rattle.message_values.proofs.Merged.{closes-merged, merged-closing, words_first, words_some}

-- the marks of the body at a place
pub marks-at : (text : List ℕ) → IsClosed text
    → marks (body_at text) ≡ merged_texts (inside 0 (marks_in text))
marks-at text closed = balanced-marks (merged_texts (inside 0 (marks_in text)))
    (closes-merged 0 (inside 0 (marks_in text)) (closes-inside 0 (marks_in text)), merged_open 0 (inside 0 (marks_in text)) ∙ closed)

-- a start tag stands first
module _ (text rest after name : List ℕ) (attributes : List Attribute) (first : marks_in text ≡ opening name attributes ∷ marks_in rest)
    (follows : marks_in after ≡ behind 0 (marks_in rest)) (closed : IsClosed text) where
  element-ends : Ends 0 (marks_in rest)
  element-ends = ends 0 (marks_in rest) (sym (ap (λ ms. open_after 0 (inside 0 ms)) first) ∙ closed)

  pub closed_inner : IsClosed rest
  closed_inner = element-ends.inner

  pub closed_after : IsClosed after
  closed_after = ap (λ ms. open_after 0 (inside 0 ms)) follows ∙ element-ends.outer

  regroup : (xs ys : List Mark) (o : Mark) → (o ∷ (xs ++ closing ∷ [])) ++ ys ≡ o ∷ (xs ++ closing ∷ ys)
  regroup xs ys o = ap (λ ms. o ∷ ms) (append_assoc xs (closing ∷ []) ys)

  whole_marks : merged_texts (inside 0 (marks_in text)) ≡ opening name attributes ∷ (merged_texts (inside 0 (marks_in rest)) ++ closing ∷ merged_texts (inside 0 (marks_in after)))
  whole_marks = ap (λ ms. merged_texts (inside 0 ms)) first
      ∙ ap (λ ms. opening name attributes ∷ merged_texts ms) element-ends.whole
      ∙ ap (λ ms. opening name attributes ∷ ms) (merged-closing (inside 0 (marks_in rest)) (inside 0 (behind 0 (marks_in rest))))
      ∙ ap (λ ms. opening name attributes ∷ (merged_texts (inside 0 (marks_in rest)) ++ closing ∷ merged_texts (inside 0 ms))) (sym follows)

  pub element_first : body_at text ≡ Elem name attributes (body_at rest) ∷ body_at after
  element_first = same_from_marks _ _ (marks-at text closed ∙ whole_marks
      ∙ ap (λ ms. opening name attributes ∷ (ms ++ closing ∷ merged_texts (inside 0 (marks_in after)))) (sym (marks-at rest closed_inner))
      ∙ ap (λ ms. opening name attributes ∷ (marks (body_at rest) ++ closing ∷ ms)) (sym (marks-at after closed_after))
      ∙ sym (regroup (marks (body_at rest)) (marks (body_at after)) (opening name attributes))
      ∙ ap (λ ms. ms ++ marks (body_at after)) (sym (tree_marks-Elem name attributes (body_at rest))))

-- nothing stands first, or the end tag
pub nothing_first : (text : List ℕ) → marks_in text ≡ [] → body_at text ≡ []
nothing_first text e = ap (λ ms. body_of (merged_texts (inside 0 ms))) e

pub end_first : (text : List ℕ) (ms : List Mark) → marks_in text ≡ closing ∷ ms → body_at text ≡ []
end_first text ms e = ap (λ ms. body_of (merged_texts (inside 0 ms))) e

pub no_element : (name : List ℕ) (attributes : List Attribute) (body more : List Tree) → [] ≢ Elem name attributes body ∷ more
no_element name attributes body more e = absurd (cc)

module _ (text s : List ℕ) (ms : List Mark) (first : marks_in text ≡ words s ∷ ms) (closed : IsClosed text) where
  text_marks : marks (body_at text) ≡ onto (words s) (merged_texts (inside 0 ms))
  text_marks = marks-at text closed ∙ ap (λ xs. merged_texts (inside 0 xs)) first

  -- a text stands first
  pub text_first : (name : List ℕ) (attributes : List Attribute) (body more : List Tree) → body_at text ≢ Elem name attributes body ∷ more
  text_first name attributes body more e = words_first s name attributes
      (merged_texts (inside 0 ms)) _
      (sym text_marks ∙ ap marks e ∙ ap (λ xs. xs ++ marks more) (tree_marks-Elem name attributes body))

  pub text_some : body_at text ≢ []
  text_some e = words_some s (merged_texts (inside 0 ms)) (sym text_marks ∙ ap marks e)

-- an element stands first
pub element_some : (text rest name : List ℕ) (attributes : List Attribute) → marks_in text ≡ opening name attributes ∷ marks_in rest → IsClosed text → body_at text ≢ []
element_some text rest name attributes first closed e =
    let some : opening name attributes ∷ merged_texts (inside 1 (marks_in rest)) ≡ [] =
    sym (ap (λ ms. merged_texts (inside 0 ms)) first) ∙ sym (marks-at text closed) ∙ ap marks e in
    absurd (cc)

-- something stands first that is no end tag
pub some_first : (text rest : List ℕ) (m : LentMark) → marks_in text ≡ mark m ∷ marks_in rest → m ≢ Closing → IsClosed text → body_at text ≢ []
some_first text rest (Opening name attributes) first other closed = element_some text rest name.now attributes first closed
some_first text rest Closing first other closed = absurd (other refl)
some_first text rest (Words s) first other closed = text_some text s.now (marks_in rest) first closed

-- something stands first that is no start tag
pub other_first : (text rest : List ℕ) (m : LentMark) → marks_in text ≡ mark m ∷ marks_in rest
    → ((name : Bor (List ℕ)) (attributes : List Attribute) → m ≢ Opening name attributes) → IsClosed text
    → (name : List ℕ) (attributes : List Attribute) (body more : List Tree) → body_at text ≢ Elem name attributes body ∷ more
other_first text rest (Opening name attributes) first other closed = absurd (other name attributes refl)
other_first text rest Closing first other closed = λ name attributes body more e. no_element name attributes body more (sym (end_first text (marks_in rest) first) ∙ e)
other_first text rest (Words s) first other closed = text_first text s.now (marks_in rest) first closed
