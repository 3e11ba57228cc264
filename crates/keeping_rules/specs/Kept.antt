-- What a session keeps, by its list of items (this project's own).
use Rattle.std.specs.Prelude.{◌≡◌, ℕ, ◌+◌, ◌≤◌, Bool, List, if◌then◌else◌, length, Option, Some, None}
use Rattle.language.specs.Lang.{Lang}
use Rattle.message_values.specs.declared.protocol.Protocol.{Protocol}
use Rattle.message_values.specs.Workers.{IsWorker, most_workers}
use Rattle.buffer_rules.specs.Preparing.{Buffer}
use Rattle.core_rules.specs.declared.event.Event.{Event}
use Rattle.core_rules.specs.Standing.{held, has_ended}
use Rattle.reply_outbox.specs.Waiting.{Log}
use Rattle.session_rules.specs.declared.entry.Entry.{Entry}
use Rattle.session_rules.specs.declared.service.Service.{Service}
use Rattle.session_rules.specs.declared.service.Service.TheVariants.{Script}
use Rattle.session_rules.specs.Session.{Session, document}
use Rattle.session_rules.specs.Services.{free_workers}
use Rattle.session_rules.specs.Steps.{Nothing, due}
use Rattle.session_replies.specs.Works.{Work}
use Rattle.keeping_rules.specs.Items.{SessionItem, heard_in, session_in}
use Rattle.keeping_rules.specs.Pieces.{pieces, AreWaiting}
use Rattle.keeping_rules.specs.Legal.{AreLegal}
use Rattle.keeping_rules.specs.Holders.{holders}
use Rattle.keeping_rules.specs.Works.{IsWorkOf}

-- the session of these parts
abbrev pub session_of : Buffer → List Event → Protocol → Bool → Session
session_of buffer events protocol called =
    record { buffer = buffer; events = events; protocol = protocol; called = called }

-- the list is legal, the session after it is this, and of its replies these wait
pub record IsListed {S : Type 0} (l : Lang S) (service : Service) (items : List SessionItem)
    (waiting : List (List ℕ)) (s : Session) : Type 0 where
  pub legal : AreLegal l service items
  pub stands : session_in l service items ≡ s
  pub waits : AreWaiting (pieces l service (heard_in service items)) items waiting

-- the jobs that are kept are those of the workers that messages name, where a script is followed
pub record AreKeptJobs {S : Type 0} (l : Lang S) (service : Service) (s : Session)
    (jobs : ℕ → Option (Work S)) : Type 0 where
  pub right : (who : ℕ) (work : Work S) → jobs who ≡ Some work → IsWorkOf l s who work
  pub all : (who : ℕ) → service ≡ Script → IsWorker who → jobs who ≡ None
      → held s.events who ≡ None
  pub only : (who : ℕ) (work : Work S) → jobs who ≡ Some work
      → (service ≡ Script) × IsWorker who

-- what a session keeps stands for its list, and nothing is due; the newest version's id is known;
-- and there is room for what is owed: the end, and the entry by which each part that is held is
-- finished or let go; both documents have the same blobs
pub record IsKept {S : Type 0} (l : Lang S) (service : Service) (log : Log Service Entry)
    (s : Session) (last holding : ℕ) (jobs : ℕ → Option (Work S)) : Type 0 where
  pub listed : IsListed l service log.items log.waiting s
  pub at_rest : due l service (heard_in service log.items) ≡ Nothing
  pub last_is : last ≡ (document l s).last
  pub workers : free_workers service ≤ most_workers
  pub jobs_are : AreKeptJobs l service s jobs
  pub holders_are : holding ≡ length (holders s.events)
  pub blobs_are : (document l s).tip.blobs ≡ s.buffer.document.blobs
  pub room : holding + (if has_ended s.events then 0 else 1) ≤ log.free
