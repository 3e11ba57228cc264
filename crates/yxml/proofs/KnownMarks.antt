-- Bodies one after the other.
use Rattle.std.proofs.Common.{◌≡◌, ℕ, ◌+◌, max, List, [], ◌∷◌, ◌++◌, refl, sym, ap, ◌∙◌, append_assoc, arith}
use Rattle.yxml.specs.declared.tree.Attribute.{Attribute}
use Rattle.yxml.specs.declared.tree.Tree.{Tree}
use Rattle.yxml.specs.declared.tree.Tree.TheVariants.{Elem, Text, rolls-Elem, rolls-Text}
use Rattle.yxml.specs.declared.tree.Tree.TheOpen.{Tree-F}
use Rattle.yxml.specs.declared.tree.Tree.TheFolds.{fold-roll-Tree}
use Rattle.yxml.specs.Marks.{Mark, opening, closing, words, marks, mark_step, tree_marks}
use Rattle.yxml.specs.Normal.{height, height_step, tree_height}

pub marks-append : (xs ys : List Tree) → marks (xs ++ ys) ≡ marks xs ++ marks ys
marks-append [] ys = refl
marks-append (x ∷ xs) ys = ap (λ ms. tree_marks x ++ ms) (marks-append xs ys) ∙ sym (append_assoc (tree_marks x) (marks xs) (marks ys))

pub height-append : (xs ys : List Tree) → height (xs ++ ys) ≡ max (height xs) (height ys)
height-append [] ys = omega arith
height-append (x ∷ xs) ys = omega (arith, height-append xs ys)

pub tree_marks-Text : (text : List ℕ) → tree_marks (Text text) ≡ words text ∷ []
tree_marks-Text text = ap tree_marks (sym (rolls-Text text)) ∙ fold-roll-Tree (List Mark) mark_step (Tree-F.Text text)

pub tree_marks-Elem : (name : List ℕ) (attributes : List Attribute) (body : List Tree)
    → tree_marks (Elem name attributes body) ≡ opening name attributes ∷ (marks body ++ closing ∷ [])
tree_marks-Elem name attributes body =
    ap tree_marks (sym (rolls-Elem name attributes body)) ∙ fold-roll-Tree (List Mark) mark_step (Tree-F.Elem name attributes body)

pub tree_height-Elem : (name : List ℕ) (attributes : List Attribute) (body : List Tree) → tree_height (Elem name attributes body) ≡ 1 + height body
tree_height-Elem name attributes body =
    ap tree_height (sym (rolls-Elem name attributes body)) ∙ fold-roll-Tree ℕ height_step (Tree-F.Elem name attributes body)

pub tree_height-Text : (text : List ℕ) → tree_height (Text text) ≡ 0
tree_height-Text text = ap tree_height (sym (rolls-Text text)) ∙ fold-roll-Tree ℕ height_step (Tree-F.Text text)
