-- What workers and the writer leave of a session's state (this project's own).
use Rattle.std.specs.Prelude.{◌≡◌, ◌==◌, ℕ, ◌+◌, ◌≤◌, false, List, [], ◌∷◌, ◌++◌, Option, Some, None, Ok}
use Rattle.pide_base.specs.declared.part.Part.{Part}
use Rattle.language.specs.Lang.{Lang}
use Rattle.message_values.specs.declared.editor_message.EditorMessage.TheVariants as asks
use Rattle.message_values.specs.Asked.{asked}
use Rattle.message_values.specs.Workers.{IsWorker}
use Rattle.reply_messages.specs.declared.told.Told.TheVariants as tells
use Rattle.core_jobs.specs.Fits.{IsJobOf}
use Rattle.core_rules.specs.declared.event.Event.{Event}
use Rattle.core_rules.specs.declared.event.Event.TheVariants as event
use Rattle.core_rules.specs.Ready.{first_ready, is_wanted}
use Rattle.core_rules.specs.Standing.{held, has_ended}
use Rattle.session_replies.specs.prover_core_below.declared.finishing.Finish.{Finish}
use Rattle.session_replies.specs.prover_core_below.Answers.{FinishedSo}
use Rattle.reply_outbox.specs.declared.item.Item.TheVariants as item
use Rattle.reply_outbox.specs.Items.{is_lost}
use Rattle.reply_outbox.specs.Waiting.{Log, IsSent}
use Rattle.session_rules.specs.declared.entry.Entry.{Entry}
use Rattle.session_rules.specs.declared.entry.Entry.TheVariants as entry
use Rattle.session_rules.specs.declared.service.Service.{Service}
use Rattle.session_rules.specs.declared.service.Service.TheVariants.{Script}
use Rattle.session_rules.specs.Services.{free_workers, mode_of}
use Rattle.session_rules.specs.Session.{document}
use Rattle.session_replies.specs.Spelling.{reply_spelling}
use Rattle.session_replies.specs.Works.{Work, WorkDone}
use Rattle.keeping_rules.specs.Items.{writer_of}
use Rattle.keeping_rules.specs.Kept.{IsKept}
use Rattle.keeping_rules.specs.States.{State, IsSound, moved, heard_with, with_past}
use Rattle.keeping_rules.specs.Turns.{entry_of, finish_reply}
use Rattle.keeping_rules.specs.Works.{IsDoneWorkOf}

-- the tables have the same but for one worker
abbrev pub AreOthers : {A : Type 0} → ℕ → (ℕ → Option A) → (ℕ → Option A) → Type 0
AreOthers who old new = (w : ℕ) → (who == w) ≡ false → new w ≡ old w

-- workers that work as they find parts ready leave a sound state: where one takes the first ready
-- part, ends what it holds, or gives it up
pub record FreeLaws {S : Type 0} (l : Lang S) : Type 0 where
  pub claimed : (service : Service) (st : State S) (who : ℕ) (part : Part) (new : Log Service Entry)
      → IsSound l service st → who ≤ free_workers service → has_ended st.session.events ≡ false
      → held st.session.events who ≡ None → first_ready l st.session.events ≡ Some part
      → new.items ≡ item.Made (entry.Claimed who part) ∷ st.log.items
      → new.waiting ≡ st.log.waiting ++ [] → st.holding + 2 ≤ new.free
      → IsKept l service new
      (with_past st.session (event.Claimed who part ∷ st.session.events)) st.last
      (st.holding + 1) st.jobs
  pub finished : (service : Service) (st : State S) (who : ℕ) (work : WorkDone S) (f : Finish)
      (past : List Event) (holding : ℕ) (new : Log Service Entry)
      → IsSound l service st → who ≤ free_workers service → IsDoneWorkOf l st.session who work
      → FinishedSo l who work.done.part st.session.events f past
      → new.items ≡ item.Made (entry_of f who work.done.part) ∷ st.log.items
      → new.waiting ≡ st.log.waiting ++ reply_spelling (finish_reply f work) ∷ []
      → new.free + 1 ≡ st.log.free → holding + 1 ≡ st.holding
      → IsKept l service new (with_past st.session past) st.last holding st.jobs
  pub given_up : (service : Service) (st : State S) (who : ℕ) (part : Part) (holding : ℕ)
      (new : Log Service Entry)
      → IsSound l service st → who ≤ free_workers service
      → held st.session.events who ≡ Some part
      → is_wanted (document l st.session) part.exec ≡ false
      → new.items ≡ item.Made (entry.Dropped who part) ∷ st.log.items
      → new.waiting ≡ st.log.waiting ++ reply_spelling (tells.Dropped part) ∷ []
      → new.free + 1 ≡ st.log.free → holding + 1 ≡ st.holding
      → IsKept l service new
      (with_past st.session (event.Dropped who part ∷ st.session.events)) st.last holding st.jobs

-- so do the steps that messages tell workers to take
pub record StepLaws {S : Type 0} (l : Lang S) : Type 0 where
  pub claimed : (service : Service) (st : State S) (message : List (List ℕ)) (who : ℕ)
      (part : Part) (work : Work S) (jobs : ℕ → Option (Work S)) (new : Log Service Entry)
      → IsSound l service st → has_ended st.session.events ≡ false
      → asked (mode_of service) message ≡ Ok (asks.Claim who) → service ≡ Script → IsWorker who
      → held st.session.events who ≡ None → first_ready l st.session.events ≡ Some part
      → work.job.part ≡ part → IsJobOf l (document l st.session).homes work.job
      → work.protocol ≡ st.session.protocol → AreOthers who st.jobs jobs → jobs who ≡ Some work
      → new.items ≡ item.Made (entry.Claimed who part) ∷ item.Made (entry.Call message)
      ∷ st.log.items
      → new.waiting ≡ (st.log.waiting ++ []) ++ reply_spelling (tells.Claimed who part) ∷ []
      → st.holding + 2 ≤ new.free → IsKept l service new
      (heard_with st.session (event.Claimed who part ∷ st.session.events)) st.last
      (st.holding + 1) jobs
  pub finished : (service : Service) (st : State S) (message : List (List ℕ)) (who : ℕ)
      (work : WorkDone S) (f : Finish) (past : List Event) (holding : ℕ)
      (jobs : ℕ → Option (Work S)) (new : Log Service Entry)
      → IsSound l service st → has_ended st.session.events ≡ false
      → asked (mode_of service) message ≡ Ok (asks.Finish who)
      → IsDoneWorkOf l st.session who work
      → FinishedSo l who work.done.part st.session.events f past
      → AreOthers who st.jobs jobs → jobs who ≡ None
      → new.items ≡ item.Made (entry_of f who work.done.part) ∷ item.Made (entry.Call message)
      ∷ st.log.items
      → new.waiting ≡ (st.log.waiting ++ []) ++ reply_spelling (finish_reply f work) ∷ []
      → holding + 1 ≡ st.holding → holding + 1 ≤ new.free
      → IsKept l service new (heard_with st.session past) st.last holding jobs

-- so do the end, and what the writer does
pub record WriterLaws {S : Type 0} (l : Lang S) : Type 0 where
  pub ended : (service : Service) (st : State S) (new : Log Service Entry)
      → IsSound l service st → has_ended st.session.events ≡ false
      → new.items ≡ item.Made entry.Ended ∷ st.log.items → new.waiting ≡ st.log.waiting ++ []
      → new.free + 1 ≡ st.log.free → IsSound l service
      (moved st new (with_past st.session (event.Ended ∷ st.session.events)))
  pub sent : (service : Service) (st : State S) (bytes : List ℕ) (new : Log Service Entry)
      → IsSound l service st → IsSent (writer_of service) bytes st.log new
      → new.free ≡ st.log.free → IsSound l service (moved st new st.session)
  pub lost : (service : Service) (st : State S) (new : Log Service Entry)
      → IsSound l service st → is_lost st.log.items ≡ false
      → new.items ≡ item.Lost (writer_of service) ∷ st.log.items
      → new.waiting ≡ st.log.waiting → new.free ≡ st.log.free
      → IsSound l service (moved st new st.session)
