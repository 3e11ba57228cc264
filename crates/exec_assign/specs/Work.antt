-- What an update has done so far, by place (this project's own).
use Rattle.std.specs.Prelude.{◌≡◌, ℕ, ◌≤◌, Bool, true, List, length, slice_get, Some}
use Rattle.doc_nodes.specs.Looks.{marked}
use Rattle.pide_base.specs.Ids.{id_end}
use Rattle.doc_nodes.specs.declared.node.Node.{Node}
use Rattle.exec_rules.specs.declared.row.Assigned.{Assigned}
use Rattle.exec_rules.specs.declared.home.Home.{Home}
use Rattle.exec_rules.specs.Keys.{assigned_at}
use Rattle.exec_rules.specs.Assigning.{Update, Work, assigned_in}
use Rattle.exec_assign.specs.Found.{AreAssigned}
use Rattle.exec_assign.specs.Untouched.{IsUntouched}

-- a node is untouched, and is assigned what it was
pub record HasStood (u : Update) (pair : List ℕ × Node) (assigned : Assigned) : Type 0 where
  pub untouched : IsUntouched u pair
  pub had : assigned_in u.tip pair.0 ≡ Some assigned

-- the nodes that are marked are assigned what they were
abbrev pub HaveStood : Update → List Bool → (ℕ → Assigned) → Type 0
HaveStood u marks assigned = (p : ℕ) (pair : List ℕ × Node) → marked marks p ≡ true
    → slice_get u.nodes p ≡ Some pair → HasStood u pair (assigned p)

-- what is assigned at each place, the homes and the next number are those of the work so far
pub record IsWork (u : Update) (all : List Assigned) (homes : List Home) (next : ℕ)
    (standing : List Bool) (work : Work) : Type 0 where
  pub are : AreAssigned all work.done
  pub homes_are : homes ≡ work.homes
  pub next_is : next ≡ work.next
  pub first : 1 ≤ next
  pub within : next ≤ id_end
  pub all_long : length all ≡ length u.nodes
  pub standing_long : length standing ≡ length u.nodes
  pub stood : HaveStood u standing (assigned_at work.done)
