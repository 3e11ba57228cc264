-- Which bodies are normal: those that YXML can spell, each as itself.
use Rattle.std.specs.Prelude.{◌≡◌, ◌≢◌, ℕ, ◌+◌, ◌≤◌, ◌==◌, max, false, List, [], ◌∷◌, map}
use Rattle.std.specs.List.{AllByRecursion}
use Rattle.yxml.specs.declared.tree.Attribute.{Attribute}
use Rattle.yxml.specs.declared.tree.Tree.{Tree, fold-Tree}
use Rattle.yxml.specs.declared.tree.Tree.TheOpen.{Tree-F}
use Rattle.yxml.specs.Marks.{Mark, opening, closing, words, marks}

-- X, with which YXML parts chunks (The Isabelle System Manual, "YXML")
abbrev pub x_byte : ℕ
x_byte = 5

-- Y, with which YXML begins what is no text (The Isabelle System Manual, "YXML")
abbrev pub y_byte : ℕ
y_byte = 6

-- '=', which ends a key
abbrev pub equals_sign : ℕ
equals_sign = 61

-- the most elements that are nested (this project's own: it keeps readers off a deep stack)
abbrev pub most_nested : ℕ
most_nested = 200

-- the byte c is not among them
abbrev pub Lacks : ℕ → List ℕ → Type 0
Lacks c bytes = AllByRecursion (λ b. (b == c) ≡ false) bytes

-- without the bytes with which YXML marks up
abbrev pub IsPlain : List ℕ → Type 0
IsPlain bytes = Lacks x_byte bytes × Lacks y_byte bytes

-- something plain
abbrev pub IsFilled : List ℕ → Type 0
IsFilled bytes = (bytes ≢ []) × IsPlain bytes

-- a key is cut off at the first '=', so it has none
abbrev pub IsAttribute : Attribute → Type 0
IsAttribute a = IsFilled a.key × Lacks equals_sign a.key × IsPlain a.value

-- a mark that is fit by itself: names, keys and texts are not empty, and all is plain
abbrev pub IsFit : Mark → Type 0
IsFit (opening name attributes) = IsFilled name × AllByRecursion IsAttribute attributes
IsFit closing = Unit {0}
IsFit (words text) = IsFilled text

-- the mark is no text, or no text comes next
abbrev pub IsApart : Mark → List Mark → Type 0
IsApart (words text) (words next ∷ ms) = ⊥
IsApart m ms = Unit {0}

-- no two texts stand side by side
abbrev pub AreApart : List Mark → Type 0
AreApart [] = Unit {0}
AreApart (m ∷ ms) = IsApart m ms × AreApart ms

-- the greatest number of the list, 0 where there is none
abbrev pub largest : List ℕ → ℕ
largest [] = 0
largest (n ∷ ns) = max n (largest ns)

-- one tree, with the heights of the trees in its body already found
abbrev pub height_step : Tree-F ℕ → ℕ
height_step (Tree-F.Elem name attributes body) = 1 + largest body
height_step (Tree-F.Text text) = 0

-- how many elements are nested in a tree, itself counted
abbrev pub tree_height : Tree → ℕ
tree_height = fold-Tree ℕ height_step

-- how many elements are nested in a body
abbrev pub height : List Tree → ℕ
height body = largest (map tree_height body)

-- a normal body (this project's own)
pub record IsNormal (body : List Tree) : Type 0 where
  pub fit : AllByRecursion IsFit (marks body)
  pub apart : AreApart (marks body)
  pub nested : height body ≤ most_nested
