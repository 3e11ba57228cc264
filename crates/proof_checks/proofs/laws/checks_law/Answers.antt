use Rattle.proof_terms.specs.Reading.{deepest}
use Rattle.proof_checks.proofs.DeriveLemmas.{checked_nj}
use Rattle.proof_checks.proofs.StandLemmas.{stand}
use Rattle.proof_checks.proofs.laws.checks_law.Goals as goal

pub returns-clause-derives : goal.returns-clause-derives
returns-clause-derives c = checked_nj deepest

pub returns-clause-stands : goal.returns-clause-stands
returns-clause-stands c = stand deepest
