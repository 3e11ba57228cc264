use Rattle.editor_buffer.specs.Standing.{sheets_of}
use Rattle.editor_buffer.specs.Cutting.{IsCutUpTo}
use Rattle.editor_buffer.proofs.cutting.cut_all.Given as goal

abbrev pub invariant-nodes : goal.invariant-nodes
invariant-nodes l = IsCutUpTo l.tip.nodes.now (sheets_of l.fn.draft.opened) l.tip.next l.place l.cutting
