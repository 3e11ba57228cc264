-- Small documents, and what updates assign in them (this project's own).
use Rattle.std.specs.Prelude.{ℕ, true, false, List, [], codes, Some, None}
use Rattle.doc_nodes.specs.declared.node.Entry.{Entry}
use Rattle.doc_nodes.specs.declared.node.Node.{Node}
use Rattle.doc_nodes.specs.Imports.{NodeList}
use Rattle.exec_rules.specs.declared.version.Version.{Version}
use Rattle.exec_rules.specs.Kept.{BlobList}
use Rattle.exec_rules.specs.Assigning.{Assignment, assignment}
use Rattle.exec_rules.specs.Listed.{Told, listed}

-- a command that is hidden, and one that is seen
abbrev pub hidden : ℕ → Entry
hidden c =
    record { command = c; range = record { start = 0; stop = 0 }; visible = false; needs = None }

-- a command that is seen
abbrev pub seen : ℕ → Entry
seen c =
    record { command = c; range = record { start = 0; stop = 0 }; visible = true; needs = None }

-- a command that asks for the blob `x`
abbrev pub loads : ℕ → Entry
loads c = record {
  command = c;
  range = record { start = 0; stop = 0 };
  visible = false;
  needs = Some (codes "x");
}

-- a node with these imports and commands, all of them wanted, and one without
abbrev pub required : List (List ℕ) → List Entry → Node
required imports entries =
    record { text = []; entries = entries; required = true; imports = imports; keywords = [] }

-- a node that is not required
abbrev pub watched : List Entry → Node
watched entries =
    record { text = []; entries = entries; required = false; imports = []; keywords = [] }

-- the version before any update
abbrev pub start : Version
start = record { nodes = []; blobs = []; assigned = [] }

-- what is assigned by an update to these nodes and blobs, with these executions cancelled
abbrev pub updated_assignment : Version → NodeList → BlobList → List ℕ → ℕ → Assignment
updated_assignment tip nodes blobs cancelled next = assignment
    (record { tip = tip; nodes = nodes; blobs = blobs; cancelled = cancelled })
    next

-- the version after such an update
abbrev pub version_after : Version → NodeList → BlobList → List ℕ → ℕ → Version
version_after tip nodes blobs cancelled next = record {
  nodes = nodes;
  blobs = blobs;
  assigned = (updated_assignment tip nodes blobs cancelled next).assigned;
}

-- what the update tells: the nodes whose rows changed
abbrev pub tells : Version → NodeList → BlobList → List ℕ → ℕ → List (List ℕ × List Told)
tells tip nodes blobs cancelled next = listed tip (version_after tip nodes blobs cancelled next)
