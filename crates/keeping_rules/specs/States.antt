-- A session's state (this project's own).
use Rattle.std.specs.Prelude.{◌≡◌, ℕ, ◌+◌, ◌≤◌, true, false, List, ◌∷◌, ◌++◌, Option}
use Rattle.language.specs.Lang.{Lang}
use Rattle.core_rules.specs.declared.event.Event.{Event}
use Rattle.core_rules.specs.Standing.{has_ended}
use Rattle.reply_outbox.specs.declared.item.Item.TheVariants.{Made}
use Rattle.reply_outbox.specs.Waiting.{Log}
use Rattle.session_rules.specs.declared.entry.Entry.{Entry}
use Rattle.session_rules.specs.declared.service.Service.{Service}
use Rattle.session_rules.specs.Session.{Session}
use Rattle.session_replies.specs.Works.{Work}
use Rattle.keeping_rules.specs.Kept.{session_of, IsKept}

-- the log, the session after its list, the newest version's id, how many parts are held, and the
-- jobs of workers that messages name
pub record State (S : Type 0) : Type 0 where
  pub log : Log Service Entry
  pub session : Session
  pub last : ℕ
  pub holding : ℕ
  pub jobs : ℕ → Option (Work S)

-- it is what a session keeps
abbrev pub IsSound : {S : Type 0} → Lang S → Service → State S → Type 0
IsSound l service st = IsKept l service st.log st.session st.last st.holding st.jobs

-- another log, and another session after it
abbrev pub moved : {S : Type 0} → State S → Log Service Entry → Session → State S
moved st log session = record {
  log = log;
  session = session;
  last = st.last;
  holding = st.holding;
  jobs = st.jobs;
}

-- a message came, and these events have happened
abbrev pub heard_with : Session → List Event → Session
heard_with s past = session_of s.buffer past s.protocol true

-- these events have happened
abbrev pub with_past : Session → List Event → Session
with_past s past = session_of s.buffer past s.protocol s.called

-- an entry was added with these replies to a sound state that goes on
pub record IsAdded {S : Type 0} (l : Lang S) (service : Service) (st : State S) (added : Entry)
    (replies : List (List ℕ)) (new : Log Service Entry) : Type 0 where
  pub sound : IsSound l service st
  pub going : has_ended st.session.events ≡ false
  pub items : new.items ≡ Made added ∷ st.log.items
  pub waiting : new.waiting ≡ st.log.waiting ++ replies
  pub free : st.holding + 1 ≤ new.free
