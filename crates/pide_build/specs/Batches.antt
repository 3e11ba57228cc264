-- The order of imports in batches (this project's own).
use Rattle.std.specs.Prelude.{◌≡◌, ℕ, ◌<◌, Bool, false, List, [], ◌∷◌, ◌++◌, length, Option}
use Rattle.doc_nodes.specs.Rounds.{round}
use Rattle.doc_nodes.specs.Looks.{marked}
use Rattle.doc_nodes.specs.Imports.{NodeList, aims, other_places}

-- the rounds after these ordered nodes: each is the next one and has a node, until no node is left
-- whose imports are all ordered
abbrev pub AreRounds : List (List (Option ℕ)) → List ℕ → List (List ℕ) → Type 0
AreRounds rows ordered [] = round rows ordered ≡ []
AreRounds rows ordered (now ∷ later) =
    (now ≡ round rows ordered) × (0 < length now) × AreRounds rows (ordered ++ now) later

-- the rounds, and at the end the nodes that are not ordered
pub record AreBatches (nodes : NodeList) (batches : List (List ℕ)) : Type 0 where
  pub rounds : List (List ℕ)
  pub are : AreRounds (aims nodes) [] rounds
  pub all : batches ≡ rounds ++ other_places nodes ∷ []

-- the first of these places is marked
abbrev pub begins_by : List Bool → List ℕ → Bool
begins_by marks [] = false
begins_by marks (p ∷ ps) = marked marks p
