-- How a body is written, and which texts spell it.
use Rattle.std.specs.Prelude.{◌≡◌, ℕ, List, [], ◌∷◌, ◌++◌, None, Result, Ok, Err}
use Rattle.std.specs.List.{flat_map}
use Rattle.yxml.specs.declared.tree.Attribute.{Attribute}
use Rattle.yxml.specs.declared.tree.Tree.{Tree}
use Rattle.yxml.specs.Marks.{Mark, opening, closing, words, marks}
use Rattle.yxml.specs.Normal.{x_byte, y_byte, equals_sign}
use Rattle.yxml.specs.declared.fault.YxmlFault.{YxmlFault}
use Rattle.yxml.specs.declared.fault.YxmlFault.TheVariants.{NoMemory}
use Rattle.yxml.specs.Reading.{marks_in, fault_in}

-- Y key=value
abbrev pub attribute_spelling : Attribute → List ℕ
attribute_spelling a = y_byte ∷ (a.key ++ equals_sign ∷ a.value)

-- X Y name, Y key=value for each attribute, X; the body; X Y X; texts verbatim (The Isabelle System
-- Manual, "YXML")
abbrev pub mark_spelling : Mark → List ℕ
mark_spelling (opening name attributes) =
    x_byte ∷ y_byte ∷ (name ++ flat_map attribute_spelling attributes ++ x_byte ∷ [])
mark_spelling closing = x_byte ∷ y_byte ∷ x_byte ∷ []
mark_spelling (words text) = text

-- the spellings of marks, one after the other
abbrev pub spellings : List Mark → List ℕ
spellings ms = flat_map mark_spelling ms

-- the one text that is written for a body
abbrev pub yxml : List Tree → List ℕ
yxml body = spellings (marks body)

-- a mark before others; where it is a text and one comes next, they are one text
abbrev pub onto : Mark → List Mark → List Mark
onto (words text) (words next ∷ ms) = words (text ++ next) ∷ ms
onto m ms = m ∷ ms

-- texts side by side are one text
abbrev pub merged_texts : List Mark → List Mark
merged_texts [] = []
merged_texts (m ∷ ms) = onto m (merged_texts ms)

-- the text has no fault, and its marks are the body's, once texts side by side are merged
pub record Spells (text : List ℕ) (body : List Tree) : Type 0 where
  pub faultless : fault_in text ≡ None
  pub same : merged_texts (marks_in text) ≡ marks body

-- the answer is the body, or want of memory
abbrev pub ReadsAs : List Tree → Result (List Tree) YxmlFault → Type 0
ReadsAs body (Ok read) = read ≡ body
ReadsAs body (Err fault) = fault ≡ NoMemory
