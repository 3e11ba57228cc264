-- What a session keeps, once a worker took a part or ended it.
use Rattle.std.proofs.Common.{◌≡◌, ℕ, ◌+◌, ◌≤◌, Bool, true, false, List, [], ◌∷◌, ◌++◌, length, map, Option, Some, None, refl, sym, ap, subst, ◌∙◌, arith, eq-eqb}
use Rattle.std.specs.Prelude.{◌==◌, cond, if◌then◌else◌}
use Rattle.pide_base.specs.declared.part.Part.{Part}
use Rattle.buffer_rules.specs.Preparing.{Buffer}
use Rattle.language.specs.Lang.{Lang}
use Rattle.message_values.specs.Workers.{most_workers}
use Rattle.reply_messages.specs.declared.told.Told.{Told}
use Rattle.reply_messages.specs.declared.told.Told.TheVariants as tells
use Rattle.core_rules.specs.declared.event.Event.{Event}
use Rattle.core_rules.specs.declared.event.Event.TheVariants as event
use Rattle.core_rules.specs.Doc.{Doc}
use Rattle.core_rules.specs.Legal.{MayFollow as MayFollowEvents}
use Rattle.core_rules.specs.Ready.{IsFirst, is_wanted}
use Rattle.core_rules.specs.Standing.{held, has_ended}
use Rattle.session_replies.specs.prover_core_below.declared.finishing.Finish.{Finish}
use Rattle.session_replies.specs.prover_core_below.declared.finishing.Finish.TheVariants as finish
use Rattle.session_replies.specs.prover_core_below.Answers.{FinishedSo}
use Rattle.reply_outbox.specs.declared.item.Item.TheVariants as item
use Rattle.reply_outbox.specs.Waiting.{Log}
use Rattle.session_rules.specs.declared.entry.Entry.{Entry}
use Rattle.session_rules.specs.declared.entry.Entry.TheVariants as entry
use Rattle.session_rules.specs.declared.service.Service.{Service}
use Rattle.session_rules.specs.Services.{free_workers}
use Rattle.session_rules.specs.Session.{Session, document, with_event}
use Rattle.session_rules.specs.Heard.{heard}
use Rattle.session_rules.specs.History.{session_after}
use Rattle.session_rules.specs.Legal.{MayFollow, IsTurn}
use Rattle.session_rules.specs.Replies.{claim_told, report_of, entry_replies}
use Rattle.session_rules.specs.Steps.{Due, Nothing, Claims, Finishes, due}
use Rattle.session_replies.specs.Spelling.{reply_spelling}
use Rattle.session_replies.specs.Works.{Work, WorkDone}
use Rattle.session_replies.specs.Works as jobs
use Rattle.keeping_rules.specs.Items.{SessionItem, heard_in}
use Rattle.keeping_rules.specs.Holders.{holders, without}
use Rattle.keeping_rules.specs.Kept.{session_of, IsListed, AreKeptJobs, IsKept}
use Rattle.keeping_rules.specs.Turns.{entry_of, finish_reply}
use Rattle.keeping_rules.proofs.Made.{made}
use Rattle.keeping_rules.proofs.Turns.{finished_others, dropped_others}

module _ {S : Type 0} (l : Lang S) (service : Service) (items : List SessionItem) (waiting : List (List ℕ)) (s : Session) (last : ℕ)
    (listed : IsListed l service items waiting s) (last_is : last ≡ (document l s).last) (workers : free_workers service ≤ most_workers)
    (blobs : (document l s).tip.blobs ≡ s.buffer.document.blobs) (new : Log Service Entry) (now : ℕ → Option (Work S)) where
  abbrev called : Due
  called = due l service (heard_in service items)

  -- an entry of a worker's
  turned : (added : Entry) (s' : Session) (replies : List (List ℕ)) (holding : ℕ)
      → MayFollow l service (heard_in service items) (heard service added)
      → map reply_spelling (entry_replies l service (heard_in service items) (heard service
      added)) ≡ replies
      → session_after l service s (heard service added) ≡ s' → due l service (heard service added ∷ heard_in service items) ≡ Nothing
      → new.items ≡ item.Made added ∷ items → new.waiting ≡ waiting ++ replies
      → document l s' ≡ document l s → s'.buffer ≡ s.buffer → has_ended s'.events ≡ has_ended s.events
      → holding ≡ length (holders s'.events) → holding + (if has_ended s.events then 0 else 1) ≤ new.free
      → AreKeptJobs l service s' now → IsKept l service new s' last holding now
  turned added s' replies holding may told_is after_is rests items_are waiting_are doc_is buffer_is ended_is holders_are room jobs_are = record {
    listed = subst (λ (is : List SessionItem). IsListed l service is new.waiting s') (sym items_are)
        (subst (λ (ws : List (List ℕ)). IsListed l service (item.Made added ∷ items) ws s') (sym waiting_are)
        (made l service items waiting s s' added replies listed may told_is after_is));
    at_rest = ap (λ (is : List SessionItem). due l service (heard_in service is)) items_are ∙ rests;
    last_is = last_is ∙ sym (ap (λ (d : Doc). d.last) doc_is);
    workers = workers;
    jobs_are = jobs_are;
    holders_are = holders_are;
    blobs_are = ap (λ (d : Doc). d.tip.blobs) doc_is ∙ blobs ∙ sym (ap (λ (b : Buffer). b.document.blobs) buffer_is);
    room = subst (λ (b : Bool). holding + (if b then 0 else 1) ≤ new.free) (sym ended_is) room;
  }

  -- it takes the first ready part
  pub claimed_from : (who : ℕ) (part : Part) (replies : List (List ℕ)) (holding : ℕ) → has_ended s.events ≡ false → held s.events who ≡ None
      → IsFirst l s.events part → IsTurn service called who (Claims who)
      → map reply_spelling (claim_told part called) ≡ replies
      → new.items ≡ item.Made (entry.Claimed who part) ∷ items → new.waiting ≡ waiting ++ replies
      → holding ≡ length (holders s.events) → holding + 2 ≤ new.free
      → AreKeptJobs l service (with_event s (event.Claimed who part)) now
      → IsKept l service new (with_event s (event.Claimed who part)) last (holding + 1) now
  claimed_from who part replies holding going idle first turn told_is items_are waiting_are holders_are room jobs_are =
      turned (entry.Claimed who part) (with_event s (event.Claimed who part)) replies (holding + 1)
      (subst (λ (t : Session). MayFollowEvents l t.events (event.Claimed who part)) (sym listed.stands) (going, idle, first), turn)
      told_is refl refl items_are waiting_are refl refl refl (omega (arith, holders_are))
      (subst (λ (b : Bool). holding + 1 + (if b then 0 else 1) ≤ new.free) (sym going) (omega (arith, room))) jobs_are

  module _ (who : ℕ) (part : Part) (holds : held s.events who ≡ Some part) (turn : IsTurn service called who (Finishes who)) (holding : ℕ)
      (holders_are : holding ≡ length (without who (holders s.events))) (room : holding + (if has_ended s.events then 0 else 1) ≤ new.free)
      (jobs_are : (s' : Session) → s'.protocol ≡ s.protocol → (document l s').homes ≡ (document l s).homes
      → ((w : ℕ) → (who == w) ≡ false → held s'.events w ≡ held s.events w) → held s'.events who ≡ None → AreKeptJobs l service s' now) where
    itself : (o : Option Part) → (if who == who then None else o) ≡ None
    itself o = ap (λ b. cond b None o) (eq-eqb who who refl)

    finished : is_wanted (document l s) part.exec ≡ true → (reply : Told) → report_of l s part ≡ reply
        → new.items ≡ item.Made (entry.Finished who part) ∷ items
        → new.waiting ≡ waiting ++ reply_spelling reply ∷ []
        → IsKept l service new (with_event s (event.Finished who part)) last holding now
    finished wanted reply told_is items_are waiting_are =
        let may = subst (λ (t : Session). (held t.events who ≡ Some part) × (is_wanted (document l t) part.exec ≡ true)) (sym listed.stands) (holds, wanted) in
        turned (entry.Finished who part) (with_event s (event.Finished who part))
        (reply_spelling reply ∷ []) holding (may, turn)
        (ap (λ (t : Session). reply_spelling (report_of l t part) ∷ []) listed.stands ∙ ap (λ (r : Told). reply_spelling r ∷ []) told_is)
        refl refl items_are waiting_are refl refl refl holders_are room
        (jobs_are (with_event s (event.Finished who part)) refl refl (λ w e. finished_others who w part (held s.events w) e) (itself (held s.events who)))

    dropped : is_wanted (document l s) part.exec ≡ false
        → new.items ≡ item.Made (entry.Dropped who part) ∷ items → new.waiting ≡ waiting ++ reply_spelling (tells.Dropped part) ∷ []
        → IsKept l service new (with_event s (event.Dropped who part)) last holding now
    dropped unwanted items_are waiting_are =
        let may = subst (λ (t : Session). (held t.events who ≡ Some part) × (is_wanted (document l t) part.exec ≡ false)) (sym listed.stands) (holds, unwanted) in
        turned (entry.Dropped who part) (with_event s (event.Dropped who part)) (reply_spelling (tells.Dropped part) ∷ []) holding (may, turn) refl
        refl refl items_are waiting_are refl refl refl holders_are room
        (jobs_are (with_event s (event.Dropped who part)) refl refl (λ w e. dropped_others who w part (held s.events w) e) (itself (held s.events who)))

    -- it lets its part go
    pub dropped_from : is_wanted (document l s) part.exec ≡ false → (past : List Event) → past ≡ event.Dropped who part ∷ s.events
        → new.items ≡ item.Made (entry.Dropped who part) ∷ items → new.waiting ≡ waiting ++ reply_spelling (tells.Dropped part) ∷ []
        → IsKept l service new (session_of s.buffer past s.protocol s.called) last holding now
    dropped_from unwanted past is items_are waiting_are =
        subst (λ (h : List Event). IsKept l service new (session_of s.buffer h s.protocol s.called) last holding now) (sym is)
        (dropped unwanted items_are waiting_are)

    -- it ends its part, one way or the other
    pub ended_from : (work : WorkDone S) → work.done.part ≡ part → report_of l s part ≡ jobs.work_report work → (f : Finish) (past : List Event)
        → FinishedSo l who part s.events f past
        → new.items ≡ item.Made (entry_of f who part) ∷ items
        → new.waiting ≡ waiting ++ reply_spelling (finish_reply f work) ∷ []
        → IsKept l service new (session_of s.buffer past s.protocol s.called) last holding now
    ended_from work same told_is finish.Finished past so items_are waiting_are =
        subst (λ (h : List Event). IsKept l service new (session_of s.buffer h s.protocol s.called) last holding now) (sym so.1)
        (finished so.0 (jobs.work_report work) told_is items_are waiting_are)
    ended_from work same told_is finish.Dropped past so items_are waiting_are =
        dropped_from so.0 past so.1 items_are
        (waiting_are ∙ ap (λ (p : Part). waiting ++ reply_spelling (tells.Dropped p) ∷ []) same)
