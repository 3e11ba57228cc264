-- What stands in an element, up to its end tag.
use Rattle.std.specs.Prelude.{◌≡◌, ℕ, zero, suc, List, [], ◌∷◌}
use Rattle.yxml.specs.declared.tree.Tree.{Tree}
use Rattle.yxml.specs.Bodies.{body_of}
use Rattle.yxml.specs.Marks.{Mark, opening, closing, words, open_after}
use Rattle.yxml.specs.Reading.{marks_in}
use Rattle.yxml.specs.Spelling.{merged_texts}

-- the marks before the end tag of an element in which so many others are open
abbrev pub inside : ℕ → List Mark → List Mark
inside d [] = []
inside d (opening name attributes ∷ ms) = opening name attributes ∷ inside (suc d) ms
inside zero (closing ∷ ms) = []
inside (suc d) (closing ∷ ms) = closing ∷ inside d ms
inside d (words text ∷ ms) = words text ∷ inside d ms

-- the marks behind that end tag
abbrev pub behind : ℕ → List Mark → List Mark
behind d [] = []
behind d (opening name attributes ∷ ms) = behind (suc d) ms
behind zero (closing ∷ ms) = ms
behind (suc d) (closing ∷ ms) = behind d ms
behind d (words text ∷ ms) = behind d ms

-- the body that stands where the text begins, up to the end tag of the element that it is in, or to
-- the text's end (this project's own)
abbrev pub body_at : List ℕ → List Tree
body_at text = body_of (merged_texts (inside 0 (marks_in text)))

-- each element of that body has an end tag
abbrev pub IsClosed : List ℕ → Type 0
IsClosed text = open_after 0 (inside 0 (marks_in text)) ≡ 0
