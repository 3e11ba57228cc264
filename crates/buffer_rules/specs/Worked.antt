-- What updates of small documents make of ids, computed (this project's own).
use Rattle.std.specs.Prelude.{◌≡◌, [], ◌∷◌, codes}
use Rattle.text_edits.specs.declared.edit.Edit.TheVariants.{Insert, Remove}
use Rattle.buffer_rules.specs.Preparing.{Buffer, empty_buffer}
use Rattle.buffer_rules.specs.Examples.{opens, edits, closes, then, ids_in, places_in}

-- a theory of three axioms
abbrev pub three_axioms : Buffer
three_axioms =
    then empty_buffer (opens (codes "A")
    (codes "theory A begin axiom a: \"P\" axiom b: \"Q\" axiom c: \"R\" end") ∷ [])

-- one command changes: it has a new id, and those around it keep theirs; the node is closed and
-- opened again: no id comes again
pub record AChangedText : Type 0 where
  pub first : ids_in three_axioms ≡ (codes "A", 1 ∷ 2 ∷ 3 ∷ 4 ∷ 5 ∷ []) ∷ []
  pub changed : ids_in (then three_axioms
      (edits (codes "A") (Remove 38 (codes "Q") ∷ Insert 38 (codes "S") ∷ []) ∷ []))
      ≡ (codes "A", 1 ∷ 2 ∷ 6 ∷ 4 ∷ 5 ∷ []) ∷ []
  pub again : ids_in (then (then three_axioms (closes (codes "A") ∷ []))
      (opens (codes "A") (codes "theory A begin end") ∷ []))
      ≡ (codes "A", 6 ∷ 7 ∷ []) ∷ []

-- a theory of one lemma
abbrev pub one_lemma : Buffer
one_lemma = then empty_buffer
    (opens (codes "A") (codes "theory A begin lemma l: \"P --> P\" by (impI h h) end") ∷ [])

-- the same inside a comment that doesn't end
abbrev pub in_comment : Buffer
in_comment = then one_lemma (edits (codes "A") (Insert 0 (codes "(*") ∷ []) ∷ [])

-- an edit at the front hides all commands: the text is one malformed command; when it is taken back
-- all of them are new; an edit of a name changes its command alone
pub record AnOpenComment : Type 0 where
  pub hidden : ids_in in_comment ≡ (codes "A", 5 ∷ []) ∷ []
  pub place : places_in in_comment ≡ (codes "A", (0, 53) ∷ []) ∷ []
  pub back : ids_in (then in_comment (edits (codes "A") (Remove 0 (codes "(*") ∷ []) ∷ []))
      ≡ (codes "A", 6 ∷ 7 ∷ 8 ∷ 9 ∷ []) ∷ []
  pub name : ids_in (then one_lemma (edits (codes "A") (Insert 21 (codes "x") ∷ []) ∷ []))
      ≡ (codes "A", 1 ∷ 5 ∷ 3 ∷ 4 ∷ []) ∷ []
  pub blanks : ids_in (then one_lemma (edits (codes "A") (Insert 0 (codes "  ") ∷ []) ∷ []))
      ≡ (codes "A", 1 ∷ 2 ∷ 3 ∷ 4 ∷ []) ∷ []

-- equal commands: the front is taken before the back
pub record EqualCommands : Type 0 where
  pub front : ids_in (then (then empty_buffer
      (opens (codes "A") (codes "theory A begin axiom a: \"P\" axiom a: \"P\" end") ∷ []))
      (edits (codes "A") (Insert 15 (codes "axiom a: \"P\" ") ∷ []) ∷ []))
      ≡ (codes "A", 1 ∷ 2 ∷ 3 ∷ 5 ∷ 4 ∷ []) ∷ []

-- two nodes of which the second imports the first
abbrev pub importing : Buffer
importing = then empty_buffer
    (opens (codes "A") (codes "theory A begin axiom a: \"P\" end")
    ∷ opens (codes "B") (codes "theory B imports A begin lemma b: \"P\" by a end") ∷ [])

-- ids are given by name; an edit of one node changes no id of another
pub record TwoNodes : Type 0 where
  pub first : ids_in importing
      ≡ (codes "A", 1 ∷ 2 ∷ 3 ∷ []) ∷ (codes "B", 4 ∷ 5 ∷ 6 ∷ 7 ∷ []) ∷ []
  pub import : ids_in (then importing (edits (codes "A") (Insert 31 (codes " x") ∷ []) ∷ []))
      ≡ (codes "A", 1 ∷ 2 ∷ 8 ∷ []) ∷ (codes "B", 4 ∷ 5 ∷ 6 ∷ 7 ∷ []) ∷ []
  pub both : ids_in (then (then importing
      (edits (codes "A") (Insert 31 (codes " x") ∷ []) ∷ []))
      (edits (codes "B") (Insert 46 (codes " x") ∷ []) ∷ []))
      ≡ (codes "A", 1 ∷ 2 ∷ 8 ∷ []) ∷ (codes "B", 4 ∷ 5 ∷ 6 ∷ 9 ∷ []) ∷ []

-- a node whose header names a command, and one that imports it and uses the name
abbrev pub aliased : Buffer
aliased = then empty_buffer
    (opens (codes "A") (codes "theory A keywords claim = \"lemma\" begin end")
    ∷ opens (codes "B")
    (codes "theory B imports A begin claim l: \"P --> P\" by (impI h h) end") ∷ [])

-- where an alias goes, the text of the importer is cut again
pub record AnAlias : Type 0 where
  pub first : ids_in aliased
      ≡ (codes "A", 1 ∷ 2 ∷ []) ∷ (codes "B", 3 ∷ 4 ∷ 5 ∷ 6 ∷ []) ∷ []
  pub gone : ids_in (then aliased
      (edits (codes "A") (Remove 9 (codes "keywords claim = \"lemma\" ") ∷ []) ∷ []))
      ≡ (codes "A", 7 ∷ 2 ∷ []) ∷ (codes "B", 8 ∷ 5 ∷ 6 ∷ []) ∷ []
