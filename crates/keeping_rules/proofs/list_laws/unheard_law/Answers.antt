use Rattle.keeping_rules.proofs.Heard.{unheard}
use Rattle.keeping_rules.proofs.list_laws.unheard_law.Goals as goal

pub returns : goal.returns
returns g c = λ service items are none. unheard g.L.Language.lang service items are none
