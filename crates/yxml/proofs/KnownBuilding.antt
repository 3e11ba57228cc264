-- Balanced marks are those of the body that they make.
use Rattle.std.proofs.Common.{◌≡◌, ℕ, ◌+◌, ◌-◌, ◌<◌, List, [], ◌∷◌, ◌++◌, length, refl, sym, ap, ◌∙◌, append_assoc, append-nil, arith}
use Rattle.yxml.specs.declared.tree.Tree.{Tree}
use Rattle.yxml.specs.declared.tree.Tree.TheVariants.{Elem, Text}
use Rattle.yxml.specs.Bodies.{OpenElement, built_body, body_of, ClosesOpen, AreBalanced}
use Rattle.yxml.specs.Marks.{Mark, opening, closing, words, marks, tree_marks, open_after}
use Rattle.yxml.proofs.KnownMarks.{marks-append, tree_marks-Elem, tree_marks-Text}

-- what stands before the innermost open element's body, its start tag among it
abbrev outside : List OpenElement → List Mark
outside [] = []
outside (e ∷ es) = outside es ++ (marks e.before ++ opening e.name e.attributes ∷ [])

module _ {A : Type 0} where
  regroup-opening : (o b : List A) (m : A) (ms : List A) → ((o ++ (b ++ m ∷ [])) ++ []) ++ ms ≡ (o ++ b) ++ m ∷ ms
  regroup-opening o b m ms = simp (append_assoc, append-nil)

  regroup-closing : (o f : List A) (m : A) (b : List A) (c : A) (ms : List A)
      → (o ++ (f ++ m ∷ (b ++ c ∷ []))) ++ ms ≡ ((o ++ (f ++ m ∷ [])) ++ b) ++ c ∷ ms
  regroup-closing o f m b c ms = simp (append_assoc)

  regroup-text : (o b : List A) (m : A) (ms : List A) → (o ++ (b ++ m ∷ [])) ++ ms ≡ (o ++ b) ++ m ∷ ms
  regroup-text o b m ms = simp (append_assoc)

marks-last : (body : List Tree) (t : Tree) → marks (body ++ t ∷ []) ≡ marks body ++ tree_marks t
marks-last body t = marks-append body (t ∷ []) ∙ ap (λ xs. marks body ++ xs) (append-nil (tree_marks t))

built-marks : (ms : List Mark) (body : List Tree) (es : List OpenElement) (d : ℕ) → d ≡ length es
    → ClosesOpen d ms → open_after d ms ≡ 0
    → marks (built_body ms body es) ≡ (outside es ++ marks body) ++ ms
built-marks [] body [] d same closes none = sym (append-nil (marks body))
built-marks [] body (e ∷ es) d same closes none = absurd (omega (arith, same, none))
built-marks (opening name attributes ∷ ms) body es d same closes none =
    let e : OpenElement = record { before = body; name = name; attributes = attributes } in
    built-marks ms [] (e ∷ es) (d + 1) (omega (arith, same)) closes none
    ∙ regroup-opening (outside es) (marks body) (opening name attributes) ms
built-marks (closing ∷ ms) body [] d same closes none = absurd (let some : 0 < d = closes.0 in omega (arith, same, some))
built-marks (closing ∷ ms) body (e ∷ es) d same closes none =
    let inner : Tree = Elem e.name e.attributes body in
    built-marks ms (e.before ++ inner ∷ []) es (d - 1) (omega (arith, same)) closes.1 none
    ∙ ap (λ xs. (outside es ++ xs) ++ ms) (marks-last e.before inner ∙ ap (λ xs. marks e.before ++ xs) (tree_marks-Elem e.name e.attributes body))
    ∙ regroup-closing (outside es) (marks e.before) (opening e.name e.attributes) (marks body) closing ms
built-marks (words text ∷ ms) body es d same closes none =
    built-marks ms (body ++ Text text ∷ []) es d same closes none
    ∙ ap (λ xs. (outside es ++ xs) ++ ms) (marks-last body (Text text) ∙ ap (λ xs. marks body ++ xs) (tree_marks-Text text))
    ∙ regroup-text (outside es) (marks body) (words text) ms

pub balanced-marks : (ms : List Mark) → AreBalanced ms → marks (body_of ms) ≡ ms
balanced-marks ms balanced = built-marks ms [] [] 0 refl balanced.0 balanced.1
