-- Nodes that have what they had (this project's own).
use Rattle.std.specs.Prelude.{◌≡◌, ℕ, List, []}
use Rattle.doc_nodes.specs.declared.node.Node.{Node}
use Rattle.exec_rules.specs.declared.key.Key.{Key}
use Rattle.exec_rules.specs.declared.row.Assigned.{Assigned}
use Rattle.exec_rules.specs.Assigning.{Update, assigned_in, given}
use Rattle.std.specs.Prelude.{Some}
use Rattle.exec_assign.specs.Untouched.{IsUntouched}

-- the node at a place is untouched, and is given what it had: no execution of it is new
pub record Stands (u : Update) (p : ℕ) (pair : List ℕ × Node) (key : Key)
    (old : Assigned) : Type 0 where
  pub untouched : IsUntouched u pair
  pub had : assigned_in u.tip pair.0 ≡ Some old
  pub given : (next : ℕ) → given u p pair key next
      ≡ record { assigned = old; homes = []; next = next }
