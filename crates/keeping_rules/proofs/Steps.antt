-- What a session keeps, once a worker whom a message names took a part or ended it.
use Rattle.std.proofs.Common.{◌≡◌, ℕ, ◌+◌, ◌≤◌, Bool, true, false, List, [], ◌∷◌, ◌++◌, map, Option, Some, None, Result, Ok, cond, inl, refl, sym, ap, subst, ◌∙◌, arith, eq-eqb}
use Rattle.std.specs.Prelude.{if◌then◌else◌}
use Rattle.pide_base.specs.declared.part.Part.{Part}
use Rattle.language.specs.Lang.{Lang}
use Rattle.message_values.specs.declared.editor_message.EditorMessage.{EditorMessage}
use Rattle.message_values.specs.declared.editor_message.EditorMessage.TheVariants as asks
use Rattle.message_values.specs.declared.refusal.Refusal.{Refusal}
use Rattle.message_values.specs.Asked.{asked}
use Rattle.message_values.specs.Workers.{IsWorker}
use Rattle.buffer_rules.specs.Trying.{◌>>=◌}
use Rattle.reply_messages.specs.declared.told.Told.{Told}
use Rattle.reply_messages.specs.declared.told.Told.TheVariants as tells
use Rattle.core_jobs.specs.Fits.{IsJobOf}
use Rattle.core_rules.specs.declared.event.Event.{Event}
use Rattle.core_rules.specs.declared.event.Event.TheVariants as event
use Rattle.core_rules.specs.Legal.{IsLegal}
use Rattle.core_rules.specs.Ready.{IsFirst, first_ready}
use Rattle.core_rules.specs.Standing.{held, has_ended}
use Rattle.session_replies.specs.prover_core_below.declared.finishing.Finish.{Finish}
use Rattle.session_replies.specs.prover_core_below.Answers.{FinishedSo}
use Rattle.reply_outbox.specs.declared.item.Item.TheVariants as item
use Rattle.reply_outbox.specs.Waiting.{Log}
use Rattle.session_rules.specs.declared.entry.Entry.{Entry}
use Rattle.session_rules.specs.declared.entry.Entry.TheVariants as entry
use Rattle.session_rules.specs.declared.service.Service.{Service}
use Rattle.session_rules.specs.declared.service.Service.TheVariants.{Script}
use Rattle.session_rules.specs.Services.{mode_of}
use Rattle.session_rules.specs.Session.{Session, document, answered, with_event}
use Rattle.session_rules.specs.Accepting.{accepted, taken}
use Rattle.session_rules.specs.Legal.{IsSettledIn, awaited_of}
use Rattle.session_rules.specs.Replies.{claim_told, or_refusal, report_of, told_to}
use Rattle.session_rules.specs.Steps.{Due, due, due_by, due_of, called_for}
use Rattle.session_replies.specs.Spelling.{reply_spelling}
use Rattle.session_replies.specs.Works.{Work, WorkDone}
use Rattle.session_replies.specs.Works as jobs
use Rattle.keeping_rules.specs.Items.{heard_in}
use Rattle.keeping_rules.specs.Kept.{session_of, IsListed, IsKept}
use Rattle.keeping_rules.specs.Turns.{entry_of, finish_reply}
use Rattle.keeping_rules.specs.Workers.{AreOthers}
use Rattle.keeping_rules.specs.Works.{IsWorkOf}
use Rattle.keeping_rules.proofs.Free.{one_held}
use Rattle.keeping_rules.proofs.Made.{made}
use Rattle.keeping_rules.proofs.Turns.{jobs_taken, claimed_others}
use Rattle.keeping_rules.proofs.WorkerTurns.{claimed_from, ended_from}
use Rattle.keeping_rules.proofs.Accepts.{claims_so, finishes_so}

module _ {S : Type 0} (l : Lang S) (service : Service) (old new : Log Service Entry) (s : Session) (last holding : ℕ)
    (works now : ℕ → Option (Work S)) (k : IsKept l service old s last holding works) (message : List (List ℕ))
    (going : has_ended s.events ≡ false) (who : ℕ) (others : AreOthers who works now) where
  abbrev s1 : Session
  s1 = record s { called = true }

  -- the message is accepted, and calls for a step
  module _ (m : EditorMessage) (asks_it : asked (mode_of service) message ≡ Ok m) (accepts : accepted l service s m ≡ Ok s)
      (still : awaited_of l service s (Ok m) ≡ None) (told_none : told_to l service s (Ok m) ≡ []) where
    listed : IsListed l service (item.Made (entry.Call message) ∷ old.items) (old.waiting ++ []) s1
    listed = made l service old.items old.waiting s s1 (entry.Call message) [] k.listed (
      subst (λ (t : Session). has_ended t.events ≡ false) (sym k.listed.stands) going,
      k.at_rest,
      subst (λ (t : Session). IsSettledIn l t (awaited_of l service t (asked (mode_of service) message))) (sym k.listed.stands)
          (subst (λ (r : Result EditorMessage Refusal). IsSettledIn l s (awaited_of l service s r)) (sym asks_it)
          (subst (λ o. IsSettledIn l s o) (sym still) tt)),
    )
        (ap (λ (t : Session). map reply_spelling
        (told_to l service t (asked (mode_of service) message))) k.listed.stands
        ∙ ap (λ (r : Result EditorMessage Refusal). map reply_spelling (told_to l service s r)) asks_it ∙ ap (λ (ts : List Told). map reply_spelling ts) told_none)
        (ap (λ (r : Result EditorMessage Refusal). answered s (taken l service s r)) asks_it ∙ ap (λ (r : Result Session Refusal). answered s r) accepts)

    calls : due l service (heard_in service (item.Made (entry.Call message) ∷ old.items)) ≡ called_for m
    calls = ap (λ (t : Session). due_of l service t (asked (mode_of service) message)) k.listed.stands
        ∙ ap (λ (r : Result EditorMessage Refusal). due_of l service s r) asks_it ∙ ap (λ (r : Result Session Refusal). due_by r (called_for m)) accepts

  -- it takes the first ready part
  pub claim_stepped : asked (mode_of service) message ≡ Ok (asks.Claim who) → (part : Part) → held s.events who ≡ None
      → first_ready l s.events ≡ Some part → IsFirst l s.events part
      → new.items ≡ item.Made (entry.Claimed who part) ∷ item.Made (entry.Call message) ∷ old.items
      → new.waiting ≡ (old.waiting ++ []) ++ reply_spelling (tells.Claimed who part) ∷ []
      → holding + 2 ≤ new.free
      → (work : Work S) → now who ≡ Some work → work.job.part ≡ part → IsJobOf l (document l s).homes work.job → work.protocol ≡ s.protocol
      → service ≡ Script → IsWorker who → (past : List Event) → past ≡ event.Claimed who part ∷ s.events
      → IsKept l service new (session_of s.buffer past s.protocol true) last (holding + 1) now
  claim_stepped asks_it part idle ready first items waiting room work at same right protocol script worker past is =
      let accepts = claims_so l service s who part idle ready in
      let none = ap (λ (r : Result Session Refusal). or_refusal (r >>= λ later. Ok [])) accepts in
      let due_is = calls (asks.Claim who) asks_it accepts refl none in
      let s2 = with_event s1 (event.Claimed who part) in
      let holds : held s2.events who ≡ Some part = ap (λ b. cond b (Some part) (held s.events who)) (eq-eqb who who refl) in
      subst (λ (h : List Event). IsKept l service new (session_of s.buffer h s.protocol true) last (holding + 1) now) (sym is)
      (claimed_from l service (item.Made (entry.Call message) ∷ old.items) (old.waiting ++ []) s1 last
      (listed (asks.Claim who) asks_it accepts refl none) k.last_is k.workers k.blobs_are new now who part (reply_spelling (tells.Claimed who part) ∷ [])
      holding going idle first (inl due_is) (ap (λ (d : Due). map reply_spelling (claim_told part d)) due_is) items waiting k.holders_are room
      (jobs_taken l service s s2 works now k.jobs_are who refl refl others (λ w e. claimed_others who w part (held s.events w) e)
      (λ other there. let is_it : work ≡ other = cc in subst (λ (x : Work S). IsWorkOf l s2 who x × (service ≡ Script) × IsWorker who) is_it
      (record { holds = holds ∙ ap (λ (p : Part). Some p) (sym same); right = right; protocol = protocol }, script, worker))
      (λ script worker none. absurd (cc))))

  -- it ends the part that it holds
  pub finish_stepped : asked (mode_of service) message ≡ Ok (asks.Finish who) → IsLegal l s.events → (work : WorkDone S)
      → held s.events who ≡ Some work.done.part → report_of l s work.done.part ≡ jobs.work_report work → now who ≡ None
      → (f : Finish) (past : List Event) → FinishedSo l who work.done.part s.events f past
      → new.items ≡ item.Made (entry_of f who work.done.part) ∷ item.Made (entry.Call message) ∷ old.items
      → new.waiting ≡ (old.waiting ++ []) ++ reply_spelling (finish_reply f work) ∷ [] → (holding' : ℕ) → holding' + 1 ≡ holding → holding' + 1 ≤ new.free
      → IsKept l service new (session_of s.buffer past s.protocol true) last holding' now
  finish_stepped asks_it legal work holds told_is gone f past so items waiting holding' less room =
      let accepts = finishes_so l service s who work.done.part holds in
      let none = ap (λ (r : Result Session Refusal). or_refusal (r >>= λ later. Ok [])) accepts in
      ended_from l service (item.Made (entry.Call message) ∷ old.items) (old.waiting ++ []) s1 last
      (listed (asks.Finish who) asks_it accepts refl none) k.last_is k.workers k.blobs_are new now who work.done.part holds
      (inl (calls (asks.Finish who) asks_it accepts refl none)) holding'
      (omega (arith, less, one_held l s.events who holding work.done.part legal k.holders_are holds))
      (subst (λ (b : Bool). holding' + (if b then 0 else 1) ≤ new.free) (sym going) room)
      (λ s' same homes stay idle. jobs_taken l service s s' works now k.jobs_are who same homes others stay
      (λ other there. absurd (cc)) (λ script worker none. idle))
      work refl told_is f past so items waiting
