-- Where a body fails to encode a value.
use Rattle.std.specs.Prelude.{◌≡◌, ◌≢◌, ℕ, Bool, true, nat_lt, ◌==◌, List, [], ◌∷◌, ◌++◌, length, MatchBool}
use Rattle.yxml.specs.declared.tree.Tree.{Tree}
use Rattle.xml_codec.specs.declared.fault.DataFault.{DataFault}
use Rattle.xml_codec.specs.declared.fault.DataFault.TheVariants.{Wrong, NoMemory}
use Rattle.xml_codec.specs.Data.{node, list_body}

-- the fault is one of the body itself
abbrev pub IsHere : DataFault → Type 0
IsHere (Wrong path) = path ≡ []
IsHere NoMemory = Unit {0}

-- a fault in a child, seen from the body around it
abbrev pub IsBelow : ℕ → DataFault → DataFault → Type 0
IsBelow child fault NoMemory = Unit {0}
IsBelow child NoMemory (Wrong longer) = ⊥
IsBelow child (Wrong path) (Wrong longer) = longer ≡ child ∷ path

-- the first child that is no node, by its number
pub record IsFirstOther (body : List Tree) (place : ℕ) : Type 0 where
  pub before : List (List Tree)
  pub child : Tree
  pub behind : List Tree
  pub whole : body ≡ list_body before ++ child ∷ behind
  pub number : length before ≡ place
  pub other : (inside : List Tree) → child ≢ node inside

-- how many nodes the body of a list may have
abbrev pub any_number : ℕ → Bool
any_number n = true

-- how many that of a pair has
abbrev pub two : ℕ → Bool
two n = n == 2

-- how many that of an option may have
abbrev pub at_most_one : ℕ → Bool
at_most_one n = nat_lt n 2

-- a wrong number of children is a fault of the body itself; else the first child that is no node is
-- the place
abbrev pub IsNodesFault : (ℕ → Bool) → List Tree → DataFault → Type 0
IsNodesFault may body NoMemory = Unit {0}
IsNodesFault may body (Wrong path) = MatchBool (may (length body))
    ((place : ℕ) × IsFirstOther body place × (path ≡ place ∷ [])) (path ≡ [])

-- the body of a variant is one element, and that element is the place
abbrev pub IsVariantFault : List Tree → DataFault → Type 0
IsVariantFault body NoMemory = Unit {0}
IsVariantFault body (Wrong path) = MatchBool (length body == 1) (path ≡ 0 ∷ []) (path ≡ [])
