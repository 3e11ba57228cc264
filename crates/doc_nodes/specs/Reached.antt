-- Which nodes are wanted as a whole for the sake of others (this project's own).
use Rattle.std.specs.Prelude.{◌≡◌, ℕ, true}
use Rattle.doc_nodes.specs.Looks.{aims_at}
use Rattle.doc_nodes.specs.Imports.{NodeList, aims, is_ordered}
use Rattle.doc_nodes.specs.Wanted.{is_aimed, wants}

-- an ordered node that wants a command imports the node at the place, directly or not
pub data Reached (nodes : NodeList) : ℕ → Type 0 where
  direct : (q p : ℕ) → is_ordered nodes q ≡ true → wants nodes q ≡ true
      → is_aimed (aims_at (aims nodes) q) p ≡ true → Reached nodes p
  further : (q p : ℕ) → Reached nodes q
      → is_aimed (aims_at (aims nodes) q) p ≡ true → Reached nodes p
