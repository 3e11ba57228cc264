-- The steps of workers whom messages name.
use Rattle.std.proofs.Common.{◌≡◌, ℕ, ◌+◌, ◌≤◌, true, false, List, [], ◌∷◌, ◌++◌, Option, Some, None, Ok, inl, inr, refl, sym, ap, subst, ◌∙◌, arith}
use Rattle.std.specs.Prelude.{◌==◌, ◌⊎◌, if◌then◌else◌}
use Rattle.pide_base.specs.declared.part.Part.{Part}
use Rattle.exec_rules.specs.declared.home.Home.{Home}
use Rattle.language.specs.Lang.{Lang}
use Rattle.message_values.specs.declared.editor_message.EditorMessage.TheVariants as asks
use Rattle.message_values.specs.declared.mode.Mode.{Mode}
use Rattle.message_values.specs.Asked.{asked}
use Rattle.message_values.specs.Workers.{IsWorker}
use Rattle.core_jobs.specs.Fits.{IsJobOf, IsDoneOf}
use Rattle.core_jobs.specs.Jobs.{JobContent}
use Rattle.core_jobs.specs.Runs.{done_by}
use Rattle.core_rules.specs.declared.event.Event.{Event}
use Rattle.core_rules.specs.declared.event.Event.TheVariants as event
use Rattle.core_rules.specs.Ready.{first_ready}
use Rattle.core_rules.specs.Standing.{has_ended}
use Rattle.prover_core.specs.declared.finishing.Finish.{Finish}
use Rattle.prover_core.specs.declared.finishing.Finish.TheVariants as finish
use Rattle.prover_core.specs.Answers.{FinishedSo as CoreFinishedSo}
use Rattle.prover_core.specs.Claims.{IsClaimed as CoreIsClaimed}
use Rattle.reply_outbox.specs.declared.item.Item.TheVariants.{Made}
use Rattle.reply_outbox.specs.Waiting.{Log}
use Rattle.reply_messages.specs.declared.told.Told.TheVariants as tells
use Rattle.session_rules.specs.declared.entry.Entry.{Entry}
use Rattle.session_rules.specs.declared.entry.Entry.TheVariants as entry
use Rattle.session_rules.specs.declared.service.Service.{Service}
use Rattle.session_rules.specs.declared.service.Service.TheVariants.{Script}
use Rattle.session_rules.specs.Services.{mode_of}
use Rattle.session_rules.specs.Session.{document}
use Rattle.keeping_rules.specs.session_replies_below.Spelling.{reply_spelling}
use Rattle.keeping_rules.specs.session_replies_below.Works.{Work, WorkDone}
use Rattle.keeping_rules.specs.session_replies_below.declared.ran.SessionRan.{SessionRan}
use Rattle.keeping_rules.specs.session_replies_below.declared.ran.SessionRan.TheVariants as ran
use Rattle.keeping_rules.specs.session_replies_below.Runs.{RanSo, work_done}
use Rattle.keeping_rules.specs.Items.{SessionItem}
use Rattle.keeping_rules.specs.Kept.{IsKept}
use Rattle.keeping_rules.specs.States.{State, IsSound, heard_with}
use Rattle.keeping_rules.specs.Turns.{entry_of, finish_reply}
use Rattle.keeping_rules.specs.Workers.{StepLaws}
use Rattle.keeping_rules.specs.Works.{IsDoneWorkOf}
use Rattle.document_session.specs.Answers.{IsAnswered, is_step}
use Rattle.document_session.specs.Contents.{SessionState}
use Rattle.document_session.proofs.Called.{claim_called, finish_called}
use Rattle.document_session.proofs.Claims.{the_part}
use Rattle.document_session.proofs.Done.{done_of}
use Rattle.document_session.proofs.Still.{seen}
use Rattle.document_session.proofs.Tables.{at_itself, at_others}

-- a message's entry and its step's were added, with the step's reply
pub record IsStepAdded (old new : Log Service Entry) (message : List (List ℕ)) (step : Entry) (bytes : List ℕ) (room : ℕ) : Type 0 where
  pub items : new.items ≡ Made step ∷ Made (entry.Call message) ∷ old.items
  pub waiting : new.waiting ≡ (old.waiting ++ []) ++ bytes ∷ []
  pub free : room ≤ new.free

-- they were, in room that was made for more entries than what is held and the end
pub step_added : (old mid called new : Log Service Entry) (message : List (List ℕ)) (step : Entry) (bytes told : List ℕ) (holding more room : ℕ)
    → mid.items ≡ old.items → mid.waiting ≡ old.waiting → holding + 1 + more ≤ mid.free → room + 2 ≡ holding + 1 + more
    → called.items ≡ Made (entry.Call message) ∷ mid.items → called.waiting ≡ mid.waiting ++ [] → called.free + 1 ≡ mid.free
    → new.items ≡ Made step ∷ called.items → new.waiting ≡ called.waiting ++ bytes ∷ [] → new.free + 1 ≡ called.free → bytes ≡ told
    → IsStepAdded old new message step told room
step_added old mid called new message step bytes told holding more room items waiting made fits call_items call_waiting call_free
    step_items step_waiting step_free same = record {
      items = step_items ∙ ap (λ (is : List SessionItem). Made step ∷ is) call_items
          ∙ ap (λ (is : List SessionItem). Made step ∷ Made (entry.Call message) ∷ is) items;
      waiting = step_waiting ∙ ap (λ (ws : List (List ℕ)). ws ++ bytes ∷ []) call_waiting
          ∙ ap (λ (ws : List (List ℕ)). (ws ++ []) ++ bytes ∷ []) waiting ∙ ap (λ (b : List ℕ). (old.waiting ++ []) ++ b ∷ []) same;
      free = omega (arith, made, fits, call_free, step_free);
    }

-- a job that came back is as it was
pub came_back : {S : Type 0} (l : Lang S) (work back : Work S) (r : SessionRan S) (before now : ℕ) → RanSo l work r before now
    → (r ≡ ran.Stopped back) ⊎ (r ≡ ran.NoMemory back) → back ≡ work
came_back {S} l work back r before now so (inl is) = (subst (λ (x : SessionRan S). RanSo l work x before now) is so).0
came_back {S} l work back r before now so (inr is) = subst (λ (x : SessionRan S). RanSo l work x before now) is so

-- a worker's number is told in other words
pub claim_read : (mode : Mode) (message : List (List ℕ)) (worker who : ℕ) → asked mode message ≡ Ok (asks.Claim worker) → who ≡ worker
    → asked mode message ≡ Ok (asks.Claim who)
claim_read mode message worker who read same = subst (λ (n : ℕ). asked mode message ≡ Ok (asks.Claim n)) (sym same) read

pub finish_read : (mode : Mode) (message : List (List ℕ)) (worker who : ℕ) → asked mode message ≡ Ok (asks.Finish worker) → who ≡ worker
    → asked mode message ≡ Ok (asks.Finish who)
finish_read mode message worker who read same = subst (λ (n : ℕ). asked mode message ≡ Ok (asks.Finish n)) (sym same) read

-- what came of the job of a worker that a message names
pub ended_work : {S : Type 0} (l : Lang S) (service : Service) (st : State S) → IsSound l service st → (who : ℕ) (work : Work S)
    → st.jobs who ≡ Some work → (done : WorkDone S) → done ≡ work_done l work
    → ((homes : List Home) (job : JobContent S) → IsJobOf l homes job → IsDoneOf l homes (done_by l job)) → IsDoneWorkOf l st.session who done
ended_work l service st k who work has done is law = subst (IsDoneWorkOf l st.session who) (sym is)
    (done_of l st.session (law (document l st.session).homes) who work (k.jobs_are.right who work has))

ends_so : (f : Finish) (who : ℕ) (part : Part) → is_step (entry_of f who part) ≡ true
ends_so finish.Finished who part = refl
ends_so finish.Dropped who part = refl

module _ {S : Type 0} (l : Lang S) (service : Service) (st : State S) (k : IsSound l service st) (message : List (List ℕ)) (who : ℕ) where
  -- a part was taken
  module _ (asks_it : asked (mode_of service) message ≡ Ok (asks.Claim who)) (part : Part) (job : JobContent S) (past : List Event)
      (first : first_ready l st.session.events ≡ Some part) (told : CoreIsClaimed l who st.session.events job past)
      (new : Log Service Entry) (added : IsStepAdded st.log new message (entry.Claimed who part) (reply_spelling (tells.Claimed who part)) (st.holding + 2)) where
    pub step_claimed : StepLaws l → service ≡ Script → IsWorker who → (work : Work S)
        → work ≡ record { job = job; protocol = st.session.protocol } → (before now : ℕ → Option (Work S)) → ((w : ℕ) → before w ≡ st.jobs w)
        → ((w : ℕ) → now w ≡ (if who == w then Some work else before w))
        → IsKept l service new (heard_with st.session past) st.last (st.holding + 1) now
    step_claimed laws script names work is before now same puts =
        let jobs : work.job ≡ job = ap (λ (w : Work S). w.job) is in
        let found : job.part ≡ part = the_part l who st.session.events past part job first told in
        let after : past ≡ event.Claimed who part ∷ st.session.events =
        told.4 ∙ ap (λ (p : Part). event.Claimed who p ∷ st.session.events) found in
        subst (λ (h : List Event). IsKept l service new (heard_with st.session h) st.last (st.holding + 1) now) (sym after)
        (laws.claimed service st message who part work now new k told.1 asks_it script names told.0 first
        (ap (λ (j : JobContent S). j.part) jobs ∙ found)
        (subst (λ (j : JobContent S). IsJobOf l (document l st.session).homes j) (sym jobs) told.3)
        (ap (λ (w : Work S). w.protocol) is)
        (λ w apart. at_others who (Some work) before now puts w apart ∙ same w) (at_itself who (Some work) before now puts)
        added.items added.waiting added.free)

    pub step_claim_answered : (now : SessionState) → seen service st.log ≡ now → IsAnswered l now.service now.items message new.items
    step_claim_answered now is = subst (λ (x : SessionState). IsAnswered l x.service x.items message new.items) is
        (inr (entry.Claimed who part, refl, claim_called l service st.log.items st.session k.listed.stands message who asks_it part told.0 first, added.items))

  -- a part was ended
  module _ (asks_it : asked (mode_of service) message ≡ Ok (asks.Finish who)) (work : Work S) (has : st.jobs who ≡ Some work) (done : WorkDone S)
      (is : done ≡ work_done l work)
      (law : (homes : List Home) (job : JobContent S) → IsJobOf l homes job → IsDoneOf l homes (done_by l job)) where
    module _ (f : Finish) (new : Log Service Entry) (added : IsStepAdded st.log new message (entry_of f who done.done.part) (reply_spelling (finish_reply f done))
        (st.holding + 1)) where
      pub step_finished : StepLaws l → has_ended st.session.events ≡ false → (past : List Event) → CoreFinishedSo l who done.done.part st.session.events f past
          → (holding : ℕ) → holding + 1 ≡ st.holding → (before now : ℕ → Option (Work S)) → ((w : ℕ) → before w ≡ st.jobs w)
          → ((w : ℕ) → now w ≡ (if who == w then None else before w))
          → IsKept l service new (heard_with st.session past) st.last holding now
      step_finished laws going past told holding less before now same takes =
          laws.finished service st message who done f past holding now new k going asks_it (ended_work l service st k who work has done is law) told
          (λ w apart. at_others who None before now takes w apart ∙ same w) (at_itself who None before now takes)
          added.items added.waiting less (omega (arith, less, added.free))

      pub step_finish_answered : (now : SessionState) → seen service st.log ≡ now → IsAnswered l now.service now.items message new.items
      step_finish_answered now same = subst (λ (x : SessionState). IsAnswered l x.service x.items message new.items) same
          (inr (
            entry_of f who done.done.part,
            ends_so f who done.done.part,
            finish_called l service st.log.items st.session k.listed.stands message who
                asks_it done.done.part (ended_work l service st k who work has done is law).holds,
            added.items,
          ))
