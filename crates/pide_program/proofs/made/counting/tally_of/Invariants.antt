-- What was counted, and what is left to count, make up all.
use Rattle.std.proofs.Common.{List, ℕ}
use Rattle.doc_nodes.specs.declared.node.Node.{Node}
use Rattle.exec_rules.specs.declared.version.Version.{Version}
use Rattle.pide_program.specs.Told.{IsLive, shown_reports}
use Rattle.pide_program.proofs.Loops.{IsCountedTo}
use Rattle.pide_program.proofs.made.counting.tally_of.Given as goal

abbrev pub invariant-nodes : goal.invariant-nodes
invariant-nodes g l = (version : Version) → IsLive g.L.Language.lang l.fn.session l.fn.id version
    → IsCountedTo (λ (pair : List ℕ × Node). shown_reports g.L.Language.lang l.fn.session version pair.0) l.fn.nodes l.place l.tally
