use Rattle.soundness_laws.proofs.SameAliases.{aliases_same}
use Rattle.soundness_laws.proofs.aliases.headers_law.Goals as goal

pub returns : goal.returns
returns c = aliases_same
