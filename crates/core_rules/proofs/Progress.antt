-- What holds of the nodes that an update has done so far.
use Rattle.std.proofs.Common.{◌≡◌, ℕ, suc, ◌≤◌, true, List, length, find, Some, None}
use Rattle.std.specs.Prelude.{slice_get}
use Rattle.text_words.specs.Members.{has}
use Rattle.doc_nodes.specs.declared.node.Node.{Node}
use Rattle.doc_nodes.specs.Imports.{NodeList, is_bad}
use Rattle.doc_nodes.specs.Wanted.{wanted_at}
use Rattle.exec_rules.specs.declared.row.Assigned.{Assigned}
use Rattle.exec_rules.specs.declared.home.Home.{Home}
use Rattle.exec_rules.specs.Kept.{BlobList}
use Rattle.exec_rules.specs.Keys.{assigned_at}
use Rattle.exec_rules.specs.Assigning.{Work}
use Rattle.core_rules.specs.Numbered.{grown}
use Rattle.core_rules.proofs.Tables.{AreOlder}
use Rattle.core_rules.proofs.Sound.{IsSoundAt}
use Rattle.core_rules.proofs.KnownKeys.{AreInside}

-- a node that is done
pub record IsDone (homes : List Home) (nodes : NodeList) (blobs : BlobList) (assigned : ℕ → Assigned)
    (front : List ℕ) (p : ℕ) (pair : List ℕ × Node) : Type 0 where
  pub sound : IsSoundAt homes nodes blobs assigned p pair
  pub covers : wanted_at nodes p ≤ length (assigned p).rows
  pub inside : find (is_bad nodes) pair.1.imports ≡ None → AreInside nodes front pair.1.imports

pub record Progress (before : List Home) (nodes : NodeList) (blobs : BlobList) (w : Work) (front : List ℕ) : Type 0 where
  pub next : w.next ≡ suc (length (grown before w.homes))
  pub older : AreOlder (grown before w.homes)
  pub each : (p : ℕ) (pair : List ℕ × Node) → has front p ≡ true → slice_get nodes p ≡ Some pair
      → IsDone (grown before w.homes) nodes blobs (assigned_at w.done) front p pair
