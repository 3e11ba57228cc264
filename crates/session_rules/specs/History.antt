-- What a session has after a history, the newest entry first (this project's own).
use Rattle.std.specs.Prelude.{List, [], ◌∷◌}
use Rattle.language.specs.Lang.{Lang}
use Rattle.core_rules.specs.declared.event.Event.TheVariants as event
use Rattle.session_rules.specs.declared.service.Service.{Service}
use Rattle.session_rules.specs.Heard.{Heard, Message, Claimed, Finished, Dropped, Ended}
use Rattle.session_rules.specs.Session.{Session, empty_session, with_event, answered}
use Rattle.session_rules.specs.Accepting.{taken}

-- one entry more
abbrev pub session_after : {S : Type 0} → Lang S → Service → Session → Heard → Session
session_after l service s (Message read) = answered s (taken l service s read)
session_after l service s (Claimed who part) = with_event s (event.Claimed who part)
session_after l service s (Finished who part) = with_event s (event.Finished who part)
session_after l service s (Dropped who part) = with_event s (event.Dropped who part)
session_after l service s Ended = with_event s event.Ended

-- the session after these entries
abbrev pub session : {S : Type 0} → Lang S → Service → List Heard → Session
session l service [] = empty_session
session l service (e ∷ h) = session_after l service (session l service h) e
