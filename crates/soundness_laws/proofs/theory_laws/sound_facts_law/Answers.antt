use Rattle.soundness_laws.proofs.TheoryDocuments.{document_sound}
use Rattle.soundness_laws.proofs.theory_laws.sound_facts_law.Goals as goal

pub returns : goal.returns
returns c nodes blobs = document_sound (record {
  begins = c.kept_law.ensures.begins;
  kept = c.kept_law.ensures.kept;
  ends = c.kept_law.ensures.ends;
  derives = c.checks_law.ensures.derives;
  stands = c.checks_law.ensures.stands;
}) nodes blobs
