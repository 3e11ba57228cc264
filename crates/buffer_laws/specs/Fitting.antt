-- What the editor's document keeps beside the core's (this project's own).
use Rattle.std.specs.Prelude.{◌≡◌, ◌<◌}
use Rattle.std.specs.List.{AllByRecursion}
use Rattle.shared_map.specs.Pairs.{IsSorted}
use Rattle.doc_nodes.specs.Names.{in_order}
use Rattle.core_rules.specs.Assigned.{command_ids}
use Rattle.core_rules.specs.Doc.{Doc, empty_doc}
use Rattle.core_rules.specs.Updates.{AllDiffer}
use Rattle.buffer_rules.specs.Preparing.{Buffer}
use Rattle.buffer_laws.specs.Known.{AreBelow, HasOwnHeader}

-- the sheets stand by name; the core's tip has the buffer's nodes; their commands' ids differ and
-- are below the next one, as are all before; and nodes have the headers of their first commands
pub record Agrees (b : Buffer) (d : Doc) : Type 0 where
  pub names : IsSorted in_order b.document.sheets
  pub nodes : d.tip.nodes ≡ b.nodes
  pub differ : AllDiffer (command_ids b.nodes)
  pub below : AreBelow b.next (command_ids b.nodes)
  pub first : d.commands < b.next
  pub headers : AllByRecursion (λ pair. HasOwnHeader pair.1) b.nodes

-- the core's document before anything happened
abbrev pub start_doc : Doc
start_doc = empty_doc
