-- The text that a body is.
use Rattle.std.proofs.Common.{◌≡◌, ◌≢◌, ℕ, List, [], ◌∷◌, ◌++◌, refl, sym, ap, ◌∙◌}
use Rattle.yxml.specs.declared.tree.Attribute.{Attribute}
use Rattle.yxml.specs.Marks.{Mark, opening, words, marks}
use Rattle.yxml.proofs.KnownMarks.{tree_marks-Text}
use Rattle.yxml.proofs.KnownRebuilt.{same_from_marks}
use Rattle.xml_codec.specs.Data.{string_body}
use Rattle.yxml.specs.Reading.{marks_in}
use Rattle.yxml.specs.Spelling.{merged_texts}
use Rattle.message_values.specs.Inside.{inside, body_at, IsClosed}
use Rattle.message_values.proofs.Bodies.{marks-at}
use Rattle.message_values.proofs.Merged.{joined}

string-marks : (b : ℕ) (bs : List ℕ) → marks (string_body (b ∷ bs)) ≡ words (b ∷ bs) ∷ []
string-marks b bs = ap (λ ms. ms ++ []) (tree_marks-Text (b ∷ bs))

joined-string : (s : List ℕ) → joined s [] ≡ marks (string_body s)
joined-string [] = refl
joined-string (b ∷ bs) = sym (string-marks b bs)

-- the text so far is all of it
pub is_text : (text s : List ℕ) → IsClosed text → merged_texts (inside 0 (marks_in text)) ≡ joined s [] → body_at text ≡ string_body s
is_text text s closed e = same_from_marks _ _ (marks-at text closed ∙ e ∙ joined-string s)

has_element : (s u name : List ℕ) (attributes : List Attribute) (ms : List Mark) → joined s (opening name attributes ∷ ms) ≡ marks (string_body u) → ⊥
has_element [] [] name attributes ms e = absurd (cc)
has_element [] (b ∷ bs) name attributes ms e = absurd (let f = e ∙ string-marks b bs in cc)
has_element (a ∷ more) [] name attributes ms e = absurd (cc)
has_element (a ∷ more) (b ∷ bs) name attributes ms e = absurd (let f = e ∙ string-marks b bs in cc)

-- an element stands behind it
pub is_no_text : (text s name : List ℕ) (attributes : List Attribute) (ms : List Mark) → IsClosed text
    → merged_texts (inside 0 (marks_in text)) ≡ joined s (opening name attributes ∷ ms) → (u : List ℕ) → body_at text ≢ string_body u
is_no_text text s name attributes ms closed e u same =
    has_element s u name attributes ms (sym e ∙ sym (marks-at text closed) ∙ ap marks same)
