-- A tree by its layer, and texts that are compared.
use Rattle.std.proofs.Common.{◌≡◌, ℕ, true, List, bytes_eq, sym, ap, ◌∙◌}
use Rattle.std.proofs.lemmas.Slice.Eq.{bytes_eq-Decides}
use Rattle.yxml.specs.declared.tree.Attribute.{Attribute}
use Rattle.yxml.specs.declared.tree.Tree.{Tree}
use Rattle.yxml.specs.declared.tree.Tree.TheOpen.{Tree-F}
use Rattle.yxml.specs.declared.tree.Tree.TheVariants.{Elem, Text, rolls-Elem, rolls-Text}
use Rattle.yxml.specs.declared.tree.Tree.TheViews.{out-Tree, roll-Tree, roll-out-Tree, out-roll-Tree}

pub tree_elem : (t : Tree) (name : List ℕ) (attributes : List Attribute) (body : List Tree) → out-Tree t ≡ Tree-F.Elem name attributes body → t ≡ Elem name attributes body
tree_elem t name attributes body e = sym (roll-out-Tree t) ∙ ap roll-Tree e ∙ rolls-Elem name attributes body

pub tree_text : (t : Tree) (text : List ℕ) → out-Tree t ≡ Tree-F.Text text → t ≡ Text text
tree_text t text e = sym (roll-out-Tree t) ∙ ap roll-Tree e ∙ rolls-Text text

pub elem_layer : (name : List ℕ) (attributes : List Attribute) (body : List Tree) → out-Tree (Elem name attributes body) ≡ Tree-F.Elem name attributes body
elem_layer name attributes body = ap out-Tree (sym (rolls-Elem name attributes body)) ∙ out-roll-Tree (Tree-F.Elem name attributes body)

pub text_layer_is : (text : List ℕ) → out-Tree (Text text) ≡ Tree-F.Text text
text_layer_is text = ap out-Tree (sym (rolls-Text text)) ∙ out-roll-Tree (Tree-F.Text text)

pub same_bytes : (xs ys : List ℕ) → bytes_eq xs ys ≡ true → xs ≡ ys
same_bytes xs ys = (bytes_eq-Decides xs ys).0

pub bytes_same : (xs ys : List ℕ) → xs ≡ ys → bytes_eq xs ys ≡ true
bytes_same xs ys = (bytes_eq-Decides xs ys).1
