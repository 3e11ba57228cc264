use Rattle.std.proofs.Common.{◌≡◌, ◌↔◌, IsTrue, length}
use Rattle.std.specs.Bool.{OnTrue}
use Rattle.std.specs.List.{AllZip}
use Rattle.doc_nodes.specs.Imports.{NodeList}
use Rattle.buffer_rules.specs.Trying.{steps}
use Rattle.buffer_rules.specs.Sheets.{item_once}
use Rattle.editor_buffer.specs.Standing.{sheets_of, Drafted}
use Rattle.doc_nodes.specs.Heads.{heads}
use Rattle.editor_buffer.specs.Heads.{KeepHeaders}
use Rattle.editor_buffer.proofs.draft.Draft.with_items.Given as goal

abbrev pub invariant-each : goal.invariant-each
invariant-each l = record {
  opened : steps item_once l.rest (sheets_of l.draft.opened) ≡ steps item_once l.fn.items (sheets_of l.fn.self.opened);
  drafted : (tip : NodeList) → AllZip (Drafted tip) l.fn.self.opened l.fn.self.nodes → AllZip (Drafted tip) l.draft.opened l.draft.nodes;
  headers : (tip : NodeList) → AllZip (Drafted tip) l.fn.self.opened l.fn.self.nodes
      → (IsTrue l.draft.headers_stand × KeepHeaders l.rest (sheets_of l.draft.opened))
      ↔ (IsTrue l.fn.self.headers_stand × KeepHeaders l.fn.items (sheets_of l.fn.self.opened));
  stand : (tip : NodeList) → AllZip (Drafted tip) l.fn.self.opened l.fn.self.nodes
      → OnTrue l.draft.headers_stand (heads l.draft.nodes ≡ heads l.fn.self.nodes);
}

abbrev pub decreases-each : goal.decreases-each
decreases-each l = length l.rest
