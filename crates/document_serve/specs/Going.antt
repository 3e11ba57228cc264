-- How the session of one thread stands between two of its steps (this project's own).
use Rattle.std.specs.Prelude.{◌≡◌, ◌⊎◌, ℕ, zero, false, List, [], ◌∷◌, Option, Some, None}
use Rattle.exec_rules.specs.declared.version.Version.{Version}
use Rattle.language.specs.Lang.{Lang}
use Rattle.message_values.specs.Asked.{asked}
use Rattle.core_rules.specs.Standing.{has_ended}
use Rattle.reply_outbox.specs.Items.{is_lost}
use Rattle.session_rules.specs.declared.service.Service.{Service}
use Rattle.session_rules.specs.Services.{free_workers, mode_of}
use Rattle.session_rules.specs.Heard.{Heard, Claimed}
use Rattle.session_rules.specs.History.{session}
use Rattle.session_rules.specs.Legal.{awaited}
use Rattle.session_rules.specs.Alone.{IsAlone, IsUnsettled}
use Rattle.document_session.specs.keeping_rules_below.Items.{heard_in, session_in}
use Rattle.document_session.specs.keeping_rules_below.Legal.{AreLegal}
use Rattle.document_session.specs.Contents.{SessionState}
use Rattle.document_serve.specs.Served.{AllSent}

-- the list is legal, nobody works beside the reader, the session goes on, the history is that of
-- one thread, which works for this version, and the sink isn't lost
pub record IsGoing {S : Type 0} (l : Lang S) (waited : Option Version) (s : SessionState)
    : Type 0 where
  pub legal : AreLegal l s.service s.items
  pub nobody : free_workers s.service ≡ 0
  pub going : has_ended (session_in l s.service s.items).events ≡ false
  pub alone : IsAlone l s.service waited (heard_in s.service s.items)
  pub kept : is_lost s.items ≡ false

-- between messages it works for none, and all replies are sent
pub record IsAtRest {S : Type 0} (l : Lang S) (s : SessionState) : Type 0 where
  pub going : IsGoing l None s
  pub sent : AllSent l s.service s.items

-- the version that these chunks wait for just after a history
abbrev pub awaited_by : {S : Type 0} → Lang S → Service → List Heard → List (List ℕ)
    → Option Version
awaited_by l service h message = awaited l service h (asked (mode_of service) message)

-- one thread made the history, and perhaps works for the first of these messages, which are not
-- answered yet
abbrev pub IsWorkedFor : {S : Type 0} → Lang S → Service → List (List (List ℕ)) → List Heard
    → Type 0
IsWorkedFor l service [] h = IsAlone l service None h
IsWorkedFor l service (message ∷ rest) h = IsAlone l service (awaited_by l service h message) h

-- the reader takes a part for a message, whose version isn't settled
pub record IsTaken {S : Type 0} (l : Lang S) (service : Service) (message : List (List ℕ))
    (h : List Heard) : Type 0 where
  pub version : Version
  pub waits_for : awaited_by l service h message ≡ Some version
  pub unsettled : IsUnsettled l (session l service h) version
  pub alone : IsAlone l service (Some version) h

-- the newest entry is that, for the first of these messages, and the part isn't finished
abbrev pub IsBegunFor : {S : Type 0} → Lang S → Service → List (List (List ℕ)) → List Heard
    → Type 0
IsBegunFor l service (message ∷ rest) (Claimed zero part ∷ h) = IsTaken l service message h
IsBegunFor l service rest h = ⊥

-- so the history is left where memory is short
abbrev pub IsLeftFor : {S : Type 0} → Lang S → Service → List (List (List ℕ)) → List Heard → Type 0
IsLeftFor l service rest h = IsWorkedFor l service rest h ⊎ IsBegunFor l service rest h
