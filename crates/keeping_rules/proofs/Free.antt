-- What a session keeps, once a worker that works as it finds parts ready took one or ended it.
use Rattle.std.proofs.Common.{◌≡◌, ℕ, ◌+◌, ◌≤◌, false, List, [], ◌∷◌, ◌++◌, length, map, Option, Some, None, inr, refl, sym, ap, subst, ◌∙◌, arith}
use Rattle.std.specs.Prelude.{◌==◌, is_some, if◌then◌else◌}
use Rattle.pide_base.specs.declared.part.Part.{Part}
use Rattle.language.specs.Lang.{Lang}
use Rattle.reply_messages.specs.declared.told.Told.TheVariants as tells
use Rattle.core_rules.specs.declared.event.Event.{Event}
use Rattle.core_rules.specs.declared.event.Event.TheVariants as event
use Rattle.core_rules.specs.Legal.{IsLegal}
use Rattle.core_rules.specs.Ready.{IsFirst, is_wanted}
use Rattle.core_rules.specs.Standing.{held, has_ended}
use Rattle.session_replies.specs.prover_core_below.declared.finishing.Finish.{Finish}
use Rattle.session_replies.specs.prover_core_below.Answers.{FinishedSo}
use Rattle.reply_outbox.specs.declared.item.Item.TheVariants as item
use Rattle.reply_outbox.specs.Waiting.{Log}
use Rattle.session_rules.specs.declared.entry.Entry.{Entry}
use Rattle.session_rules.specs.declared.entry.Entry.TheVariants as entry
use Rattle.session_rules.specs.declared.service.Service.{Service}
use Rattle.session_rules.specs.Services.{free_workers}
use Rattle.session_rules.specs.Session.{Session, document, with_event}
use Rattle.session_rules.specs.Replies.{claim_told, report_of}
use Rattle.session_rules.specs.Steps.{Due}
use Rattle.session_replies.specs.Spelling.{reply_spelling}
use Rattle.session_replies.specs.Works.{Work, WorkDone}
use Rattle.session_replies.specs.Works as jobs
use Rattle.keeping_rules.specs.Holders.{holders, without}
use Rattle.keeping_rules.specs.Kept.{session_of, AreKeptJobs, IsKept}
use Rattle.keeping_rules.specs.Turns.{entry_of, finish_reply}
use Rattle.keeping_rules.proofs.Held.{has_holders, holders_differ, one_less}
use Rattle.keeping_rules.proofs.Turns.{none_named, jobs_taken, claimed_others}
use Rattle.keeping_rules.proofs.WorkerTurns.{claimed_from, dropped_from, ended_from}

-- of the parts that are held, that of this worker is one
pub one_held : {S : Type 0} (l : Lang S) (h : List Event) (who holding : ℕ) (part : Part) → IsLegal l h → holding ≡ length (holders h)
    → held h who ≡ Some part → length (without who (holders h)) + 1 ≡ holding
one_held l h who holding part legal is holds = one_less who (holders h) (holders_differ l h legal)
    (has_holders h who ∙ ap (λ (o : Option Part). is_some o) holds) ∙ sym is

module _ {S : Type 0} (l : Lang S) (service : Service) (old new : Log Service Entry) (s : Session) (last holding : ℕ)
    (works : ℕ → Option (Work S)) (k : IsKept l service old s last holding works) (who : ℕ) (free : who ≤ free_workers service) where
  -- it takes one
  pub claimed_kept : (part : Part) → has_ended s.events ≡ false → held s.events who ≡ None
      → IsFirst l s.events part → new.items ≡ item.Made (entry.Claimed who part) ∷ old.items → new.waiting ≡ old.waiting ++ []
      → holding + 2 ≤ new.free → (past : List Event) → past ≡ event.Claimed who part ∷ s.events
      → IsKept l service new (session_of s.buffer past s.protocol s.called) last (holding + 1) works
  claimed_kept part going idle first items waiting room past is =
      subst (λ (h : List Event). IsKept l service new (session_of s.buffer h s.protocol s.called) last (holding + 1) works) (sym is)
      (claimed_from l service old.items old.waiting s last k.listed k.last_is k.workers k.blobs_are new works who part [] holding going idle first
      (inr (k.at_rest, free)) (ap (λ (d : Due). map reply_spelling (claim_told part d)) k.at_rest) items waiting k.holders_are room
      (jobs_taken l service s (with_event s (event.Claimed who part)) works works k.jobs_are who refl refl (λ w e. refl)
      (λ w e. claimed_others who w part (held s.events w) e)
      (λ work at. let is = k.jobs_are.only who work at in absurd (none_named service who free is.0 is.1))
      (λ script worker none. absurd (none_named service who free script worker))))

  others_stay : (s' : Session) → s'.protocol ≡ s.protocol → (document l s').homes ≡ (document l s).homes
      → ((w : ℕ) → (who == w) ≡ false → held s'.events w ≡ held s.events w) → held s'.events who ≡ None → AreKeptJobs l service s' works
  others_stay s' protocol homes others none = jobs_taken l service s s' works works k.jobs_are who protocol homes (λ w e. refl) others
      (λ work at. let is = k.jobs_are.only who work at in absurd (none_named service who free is.0 is.1)) (λ script worker at. none)

  module _ (part : Part) (legal : IsLegal l s.events) (holds : held s.events who ≡ Some part) (room : new.free + 1 ≡ old.free)
      (holding' : ℕ) (less : holding' + 1 ≡ holding) where
    count : holding' ≡ length (without who (holders s.events))
    count = omega (arith, less, one_held l s.events who holding part legal k.holders_are holds)

    left : holding' + (if has_ended s.events then 0 else 1) ≤ new.free
    left = omega (arith, k.room, room, less)

    -- it lets its part go
    pub given_up_kept : is_wanted (document l s) part.exec ≡ false → (past : List Event) → past ≡ event.Dropped who part ∷ s.events
        → new.items ≡ item.Made (entry.Dropped who part) ∷ old.items → new.waiting ≡ old.waiting ++ reply_spelling (tells.Dropped part) ∷ []
        → IsKept l service new (session_of s.buffer past s.protocol s.called) last holding' works
    given_up_kept unwanted past is items waiting =
        dropped_from l service old.items old.waiting s last k.listed k.last_is k.workers k.blobs_are new works who part holds
        (inr (k.at_rest, free)) holding' count left others_stay unwanted past is items waiting

    -- it ends it
    pub ended_kept : (work : WorkDone S) → work.done.part ≡ part → report_of l s part ≡ jobs.work_report work → (f : Finish) (past : List Event)
        → FinishedSo l who part s.events f past
        → new.items ≡ item.Made (entry_of f who part) ∷ old.items → new.waiting ≡ old.waiting ++ reply_spelling (finish_reply f work) ∷ []
        → IsKept l service new (session_of s.buffer past s.protocol s.called) last holding' works
    ended_kept work same told_is f past so items waiting =
        ended_from l service old.items old.waiting s last k.listed k.last_is k.workers k.blobs_are new works who part holds
        (inr (k.at_rest, free)) holding' count left others_stay work same told_is f past so items waiting
