-- The body that marks make: each element is open until its end tag, and then stands in its parent.
use Rattle.std.specs.Prelude.{◌≡◌, ℕ, ◌+◌, ◌-◌, ◌<◌, List, [], ◌∷◌, ◌++◌}
use Rattle.yxml.specs.declared.tree.Attribute.{Attribute}
use Rattle.yxml.specs.declared.tree.Tree.{Tree}
use Rattle.yxml.specs.declared.tree.Tree.TheVariants.{Elem, Text}
use Rattle.yxml.specs.Marks.{Mark, opening, closing, words, open_after}

-- an element that is open: what stands before it in its parent, its name and its attributes
pub record OpenElement : Type 0 where
  pub before : List Tree
  pub name : List ℕ
  pub attributes : List Attribute

-- the innermost open element is closed over the body
abbrev pub closed_body : List Tree → List OpenElement → List Tree
closed_body body [] = body
closed_body body (f ∷ fs) = f.before ++ Elem f.name f.attributes body ∷ []

-- the elements that are open outside of it
abbrev pub outer : List OpenElement → List OpenElement
outer [] = []
outer (f ∷ fs) = fs

-- the body after the marks, from what the innermost open element has so far
abbrev pub built_body : List Mark → List Tree → List OpenElement → List Tree
built_body [] body open_elements = body
built_body (opening name attributes ∷ ms) body open_elements =
    built_body ms [] (record { before = body; name = name; attributes = attributes } ∷
    open_elements)
built_body (closing ∷ ms) body open_elements = built_body ms (closed_body body open_elements)
    (outer open_elements)
built_body (words text ∷ ms) body open_elements = built_body ms (body ++ Text text ∷ [])
    open_elements

-- the body that the marks make (this project's own)
abbrev pub body_of : List Mark → List Tree
body_of ms = built_body ms [] []

-- no end tag stands where no element is open, where d were open before the marks
abbrev pub ClosesOpen : ℕ → List Mark → Type 0
ClosesOpen d [] = Unit {0}
ClosesOpen d (opening name attributes ∷ ms) = ClosesOpen (d + 1) ms
ClosesOpen d (closing ∷ ms) = (0 < d) × ClosesOpen (d - 1) ms
ClosesOpen d (words text ∷ ms) = ClosesOpen d ms

-- each element is closed, and nothing else (XML 1.0, section 2.1: elements nest properly)
abbrev pub AreBalanced : List Mark → Type 0
AreBalanced ms = ClosesOpen 0 ms × (open_after 0 ms ≡ 0)
