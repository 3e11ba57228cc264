use Rattle.proof_terms.specs.Reading.{deepest}
use Rattle.soundness_laws.proofs.Complete.{complete}
use Rattle.soundness_laws.proofs.Sound.{sound}
use Rattle.soundness_laws.proofs.proof_laws.proves_law.Goals as goal

pub returns-clause-sound : goal.returns-clause-sound
returns-clause-sound c = sound deepest

pub returns-clause-complete : goal.returns-clause-complete
returns-clause-complete c t goal scope s proof = complete proof
