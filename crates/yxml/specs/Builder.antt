-- What a reader has read, as marks.
use Rattle.std.specs.Prelude.{◌≡◌, ℕ, List, [], ◌∷◌, ◌++◌, length}
use Rattle.std.specs.List.{flat_map}
use Rattle.yxml.specs.declared.tree.Tree.{Tree}
use Rattle.yxml.specs.declared.tree.Tree.TheVariants.{Text}
use Rattle.yxml.specs.Marks.{Mark, opening, words, marks, open_after}
use Rattle.yxml.specs.declared.builder.Frame.{Frame}
use Rattle.yxml.specs.declared.builder.Builder.{Builder}
use Rattle.yxml.specs.Spelling.{merged_texts}

-- what stands before an element that is open, and its start tag
abbrev pub frame_marks : Frame → List Mark
frame_marks f = marks f.before ++ opening f.name f.attributes ∷ []

-- the text that goes on, if there is any
abbrev pub text_marks : List ℕ → List Mark
text_marks [] = []
text_marks (b ∷ bs) = words (b ∷ bs) ∷ []

-- a body with the text behind it, if there is any
abbrev pub with_text : List Tree → List ℕ → List Tree
with_text body [] = body
with_text body (b ∷ bs) = body ++ Text (b ∷ bs) ∷ []

-- the marks before the text that goes on
abbrev pub base : Builder → List Mark
base b = flat_map frame_marks b.stack ++ marks b.body

-- all marks that have been read
abbrev pub flat : Builder → List Mark
flat b = base b ++ text_marks b.text

-- no text of these marks joins what follows them
pub record IsSettled (ms : List Mark) : Type 0 where
  pub settled : (rest : List Mark) → merged_texts (ms ++ rest) ≡ ms ++ merged_texts rest

-- the builder has read these marks too
pub record HasRead (old new : Builder) (ms : List Mark) : Type 0 where
  pub reads : (rest : List Mark)
      → merged_texts (flat new ++ rest) ≡ merged_texts (flat old ++ (ms ++ rest))
  pub settled : IsSettled (base old) → IsSettled (base new)
  pub depth : length new.stack ≡ open_after (length old.stack) ms
