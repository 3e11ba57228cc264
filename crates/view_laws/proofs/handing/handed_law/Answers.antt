use Rattle.view_laws.proofs.Takers.{taker_is_writer}
use Rattle.view_laws.proofs.KnownHanded.{all_replies, loses_nothing, next_sent, others_hand_nothing}
use Rattle.view_laws.proofs.Losses.{lost_log}
use Rattle.view_laws.proofs.handing.handed_law.Goals as goal

pub returns-clause-writer : goal.returns-clause-writer
returns-clause-writer g c = λ log who are only some. taker_is_writer g.L.Language.lang log who are only some

pub returns-clause-lost : goal.returns-clause-lost
returns-clause-lost g c = λ log are. lost_log g.L.Language.lang log are

pub returns-clause-others : goal.returns-clause-others
returns-clause-others g c = λ who seen log are p same.
    others_hand_nothing g.L.Language.lang who seen log are p same

pub returns-clause-next : goal.returns-clause-next
returns-clause-next g c = λ log bytes waiting are w. next_sent g.L.Language.lang log bytes waiting are w

pub returns-clause-loses : goal.returns-clause-loses
returns-clause-loses g c = λ log some. loses_nothing g.L.Language.lang log some

pub returns-clause-all : goal.returns-clause-all
returns-clause-all g c = λ log waiting are w. all_replies g.L.Language.lang c.sent_law.ensures.joined log waiting are w
