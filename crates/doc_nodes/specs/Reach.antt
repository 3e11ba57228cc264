-- Marks of what is reached.
use Rattle.std.specs.Prelude.{◌≡◌, ℕ, ◌<◌, Bool, List, length, Option}
use Rattle.doc_nodes.specs.Looks.{marked}
use Rattle.doc_nodes.specs.Imports.{NodeList}
use Rattle.doc_nodes.specs.Wanted.{is_aimed}

-- the nodes at these places, and no others, are marked
pub record AreReached (nodes : NodeList) (marks : List Bool)
    (reached : List (Option ℕ)) : Type 0 where
  pub as_many : length marks ≡ length nodes
  pub marks_are : (p : ℕ) → p < length nodes → marked marks p ≡ is_aimed reached p
