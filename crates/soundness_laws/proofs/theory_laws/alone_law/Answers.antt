use Rattle.soundness_laws.proofs.Alone.{document_alone}
use Rattle.soundness_laws.proofs.theory_laws.alone_law.Goals as goal

pub returns : goal.returns
returns c name node blobs = document_alone (record {
  begins = c.kept_law.ensures.begins;
  kept = c.kept_law.ensures.kept;
  ends = c.kept_law.ensures.ends;
  derives = c.checks_law.ensures.derives;
  stands = c.checks_law.ensures.stands;
}) (record { nodes = c.rounds_law.ensures.nodes; behind = c.rounds_law.ensures.behind }) name node blobs
