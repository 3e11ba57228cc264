use Rattle.session_replies.proofs.ToldMessages.{cancelling_is}
use Rattle.session_replies.proofs.laws.cancelling_law.Goals as goal

pub returns : goal.returns
returns g c = λ service s exec given after so. cancelling_is g.L.Language.lang service s exec given after so
