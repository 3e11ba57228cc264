-- A body read from the left: what stands in it, one after the other.
use Rattle.std.specs.Prelude.{ℕ, ◌+◌, ◌-◌, List, [], ◌∷◌, ◌++◌, map}
use Rattle.yxml.specs.declared.tree.Attribute.{Attribute}
use Rattle.yxml.specs.declared.tree.Tree.{Tree, fold-Tree}
use Rattle.yxml.specs.declared.tree.Tree.TheOpen.{Tree-F}

-- an element's start tag, its end tag, or a text (XML 1.0, section 3.1, without the tags' spelling)
pub data Mark : Type 0 where
  opening : (name : List ℕ) (attributes : List Attribute) → Mark
  closing : Mark
  words : (text : List ℕ) → Mark

-- lists of marks, one after the other
abbrev pub concat : List (List Mark) → List Mark
concat [] = []
concat (x ∷ xs) = x ++ concat xs

-- one tree, with the marks of each tree in its body already found
abbrev pub mark_step : Tree-F (List Mark) → List Mark
mark_step (Tree-F.Elem name attributes body) =
    opening name attributes ∷ (concat body ++ closing ∷ [])
mark_step (Tree-F.Text text) = words text ∷ []

-- the marks of a tree, in document order (this project's own)
abbrev pub tree_marks : Tree → List Mark
tree_marks = fold-Tree (List Mark) mark_step

-- the marks of a body, in document order
abbrev pub marks : List Tree → List Mark
marks body = concat (map tree_marks body)

-- how many elements are open behind the marks, where d were open before them
abbrev pub open_after : ℕ → List Mark → ℕ
open_after d [] = d
open_after d (opening name attributes ∷ ms) = open_after (d + 1) ms
open_after d (closing ∷ ms) = open_after (d - 1) ms
open_after d (words text ∷ ms) = open_after d ms
