use Rattle.session_replies.proofs.RemovedVersions.{all_risen}
use Rattle.session_replies.proofs.laws.removed_law.Goals as goal

pub returns : goal.returns
returns g c = λ h ids legal removed. all_risen g.L.Language.lang h ids legal removed
