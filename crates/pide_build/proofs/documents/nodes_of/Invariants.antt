use Rattle.pide_build.proofs.Opened.{AreOpened}
use Rattle.pide_build.proofs.documents.nodes_of.Given as goal

-- the nodes so far are those of the theories before the rest
abbrev pub invariant-theories : goal.invariant-theories
invariant-theories l = AreOpened l.theories l.rest l.nodes
