-- Versions whose executions go by what stands beside them.
use Rattle.std.proofs.Common.{◌≡◌, ℕ, ◌<◌, false, List, [], ◌∷◌, length, Some}
use Rattle.std.specs.Prelude.{slice_get}
use Rattle.std.specs.List.{AllByRecursion}
use Rattle.doc_nodes.specs.declared.node.Node.{Node}
use Rattle.doc_nodes.specs.Imports.{NodeList}
use Rattle.exec_rules.specs.declared.row.Assigned.{Assigned}
use Rattle.exec_rules.specs.declared.home.Home.{Home}
use Rattle.exec_rules.specs.declared.home.Input.TheVariants as input
use Rattle.exec_rules.specs.declared.version.Version.{Version}
use Rattle.exec_rules.specs.Kept.{BlobList}
use Rattle.core_rules.specs.Numbered.{numbered, grown}
use Rattle.core_rules.specs.Assigned.{command_ids}
use Rattle.core_rules.specs.Doc.{Doc}
use Rattle.core_rules.specs.FromScratch.{assigned_to, key_from, has_open, head_in}
use Rattle.core_rules.specs.Updates.{AllDiffer}
use Rattle.core_rules.proofs.KnownNumbers.{numbered_grown}
use Rattle.core_rules.proofs.Tables.{AtMost, AreOlder}
use Rattle.core_rules.proofs.HomedRows.{Extends, rows_on}
use Rattle.core_rules.proofs.ImportAliases.{IsBare, Stands, ImportStands}

-- the node at a place of a version, by what is assigned to each place
pub record IsSoundAt (homes : List Home) (nodes : NodeList) (blobs : BlobList) (assigned : ℕ → Assigned)
    (p : ℕ) (pair : List ℕ × Node) : Type 0 where
  pub bare : IsBare pair
  pub stands : Stands homes nodes blobs p pair (assigned p)
  pub key : (assigned p).key ≡ key_from nodes assigned pair.1
  pub closed : 0 < length (assigned p).rows → has_open (assigned p).key ≡ false

pub record IsSound (homes : List Home) (v : Version) : Type 0 where
  pub long : length v.assigned ≡ length v.nodes
  pub each : (p : ℕ) (pair : List ℕ × Node) → slice_get v.nodes p ≡ Some pair
      → IsSoundAt homes v.nodes v.blobs (assigned_to v) p pair

-- the imports of sound nodes stand as well
pub imports_stand : (homes : List Home) (v : Version) → IsSound homes v → (names : List (List ℕ))
    → AllByRecursion (ImportStands homes v.nodes v.blobs (assigned_to v)) names
imports_stand homes v sound [] = tt
imports_stand homes v sound (name ∷ names) = (
  λ q pair e at. ((sound.each q pair at).bare, (sound.each q pair at).stands),
  imports_stand homes v sound names,
)

module _ (homes on : List Home) (more : Extends (numbered homes) (numbered on)) where
  pub stands_on : (nodes : NodeList) (blobs : BlobList) (p : ℕ) (pair : List ℕ × Node) (a : Assigned)
      → Stands homes nodes blobs p pair a → Stands on nodes blobs p pair a
  stands_on nodes blobs p pair a stands = record {
    homed = rows_on (numbered homes) (numbered on) more pair.1 blobs pair.1.entries a.rows
        (input.First (head_in nodes p pair a.key)) stands.homed;
  }

  pub sound_on : (v : Version) → IsSound homes v → IsSound on v
  sound_on v sound = record {
    long = sound.long;
    each = λ p pair at. record {
      bare = (sound.each p pair at).bare;
      stands = stands_on v.nodes v.blobs p pair (assigned_to v p) (sound.each p pair at).stands;
      key = (sound.each p pair at).key;
      closed = (sound.each p pair at).closed;
    };
  }

pub extends_grown : (homes more : List Home) → Extends (numbered homes) (numbered (grown homes more))
extends_grown homes more e h at = numbered_grown homes more h e at

-- what an update builds on
pub record IsSoundTip (d : Doc) : Type 0 where
  pub older : AreOlder d.homes
  pub tip : IsSound d.homes d.tip
  pub most : AtMost d.commands (command_ids d.tip.nodes)
  pub differ : AllDiffer (command_ids d.tip.nodes)
