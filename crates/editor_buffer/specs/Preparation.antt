-- The buffer as it is kept, and what an update prepares (this project's own).
use Rattle.std.specs.Prelude.{ℕ, ◌≤◌, Bool, List}
use Rattle.std.specs.List.{AllZip}
use Rattle.pide_base.specs.Ids.{id_end}
use Rattle.doc_nodes.specs.Imports.{NodeList}
use Rattle.buffer_rules.specs.Updates.{BlobList}
use Rattle.buffer_rules.specs.Preparing.{Buffer}
use Rattle.editor_buffer.specs.Standing.{OpenList, sheets_of, Stands, AreInForce}
use Rattle.editor_buffer.specs.NameSets.{NameSet}

-- the buffer of these open nodes, blobs and nodes, and of the next id
abbrev pub buffer_of : OpenList → BlobList → NodeList → ℕ → Buffer
buffer_of opened blobs nodes next = record {
  document = record { sheets = sheets_of opened; blobs = blobs };
  nodes = nodes;
  next = next;
}

-- each node is cut from what the editor has of it, under the aliases that are in force in it, and
-- the next id is one or the end of ids
pub record IsStanding (opened : OpenList) (nodes : NodeList) (next : ℕ) : Type 0 where
  pub stands : AllZip Stands opened nodes
  pub in_force : AreInForce nodes opened
  pub least : 1 ≤ next
  pub most : next ≤ id_end

-- the buffer after an update; marks, by name, for nodes that are those of the buffer before it; and
-- the names of the blobs that differ
pub record Preparation : Type 0 where
  pub after : Buffer
  pub untouched : List Bool
  pub changed : NameSet
