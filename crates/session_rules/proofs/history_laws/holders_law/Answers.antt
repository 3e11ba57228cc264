-- Who holds parts is named by messages.
use Rattle.session_rules.proofs.KnownNamed.{holder_named}
use Rattle.session_rules.proofs.history_laws.holders_law.Goals as goal

pub returns : goal.returns
returns g c = λ service h who none legal alone holds.
    holder_named g.L.Language.lang service c.a_message_is_asked_where_it_is_spelled.ensures none h who legal alone holds
