use Rattle.editor_laws.proofs.HearingReplies.{follows_bytes}
use Rattle.editor_laws.proofs.laws.messages_law.Goals as goal

pub returns-clause-going : goal.returns-clause-going
returns-clause-going g c = λ service history events moves is follows.
    c.bytes_law.ensures.going service history events moves is.told
    (follows_bytes g.L.Language.lang service
    (λ hs legal are. c.readable_law.ensures service hs is legal are) history events moves follows)

pub returns-clause-sees : goal.returns-clause-sees
returns-clause-sees g c = λ service history ahead h e events moves is follows split ends.
    c.bytes_law.ensures.sees service history ahead h e events moves is.told
    (follows_bytes g.L.Language.lang service
    (λ hs legal are. c.readable_law.ensures service hs is legal are) history events moves follows)
    split ends
