-- What a session keeps, once a message was answered.
use Rattle.std.proofs.Common.{◌≡◌, ℕ, ◌+◌, ◌≤◌, Bool, true, false, List, [], ◌∷◌, ◌++◌, length, map, Option, Result, Err, refl, sym, ap, subst, ◌∙◌, arith}
use Rattle.std.specs.Prelude.{if◌then◌else◌}
use Rattle.language.specs.Lang.{Lang}
use Rattle.exec_rules.specs.declared.version.Version.{Version}
use Rattle.message_values.specs.declared.editor_message.EditorMessage.{EditorMessage}
use Rattle.message_values.specs.declared.refusal.Refusal.{Refusal}
use Rattle.message_values.specs.Asked.{asked}
use Rattle.reply_messages.specs.declared.told.Told.{Told}
use Rattle.reply_messages.specs.declared.told.Told.TheVariants as tells
use Rattle.core_rules.specs.declared.event.Event.TheVariants as event
use Rattle.core_rules.specs.Standing.{has_ended}
use Rattle.reply_outbox.specs.declared.item.Item.TheVariants as item
use Rattle.reply_outbox.specs.Waiting.{Log}
use Rattle.session_rules.specs.declared.entry.Entry.{Entry}
use Rattle.session_rules.specs.declared.entry.Entry.TheVariants as entry
use Rattle.session_rules.specs.declared.service.Service.{Service}
use Rattle.session_rules.specs.Services.{mode_of}
use Rattle.session_rules.specs.Session.{Session, document, answered, with_event}
use Rattle.session_rules.specs.Accepting.{taken}
use Rattle.session_rules.specs.Legal.{IsSettledIn, awaited_of}
use Rattle.session_rules.specs.Replies.{told_to}
use Rattle.session_rules.specs.Steps.{Nothing, due, due_of}
use Rattle.session_replies.specs.Spelling.{reply_spelling}
use Rattle.session_replies.specs.Works.{Work}
use Rattle.keeping_rules.specs.Items.{SessionItem, heard_in}
use Rattle.keeping_rules.specs.Holders.{holders}
use Rattle.keeping_rules.specs.Looks.{IsLook}
use Rattle.keeping_rules.specs.Kept.{IsListed, AreKeptJobs, IsKept}
use Rattle.keeping_rules.proofs.Made.{made}
use Rattle.keeping_rules.proofs.Jobs.{jobs_on}
use Rattle.keeping_rules.proofs.Refusals.{refused_told, refused_due, refused_awaits}

-- the log after an entry with replies, and room is left for what is owed
pub record WasAdded (old new : Log Service Entry) (added : Entry) (replies : List (List ℕ)) (holding : ℕ) : Type 0 where
  pub items : new.items ≡ item.Made added ∷ old.items
  pub waiting : new.waiting ≡ old.waiting ++ replies
  pub free : holding + 1 ≤ new.free

module _ {S : Type 0} (l : Lang S) (service : Service) (old new : Log Service Entry) (s : Session) (last holding : ℕ)
    (jobs : ℕ → Option (Work S)) (k : IsKept l service old s last holding jobs) (message : List (List ℕ)) where
  abbrev read : Result EditorMessage Refusal
  read = asked (mode_of service) message

  -- a message that nothing waits for
  pub answered_with : (replies : List (List ℕ)) (s' : Session) (last' : ℕ) → WasAdded old new (entry.Call message) replies holding → has_ended s.events ≡ false
      → IsSettledIn l s (awaited_of l service s read)
      → map reply_spelling (told_to l service s read) ≡ replies
      → answered s (taken l service s read) ≡ s' → due_of l service s read ≡ Nothing
      → last' ≡ (document l s').last → AreKeptJobs l service s' jobs → holders s'.events ≡ holders s.events → has_ended s'.events ≡ false
      → (document l s').tip.blobs ≡ s'.buffer.document.blobs → IsKept l service new s' last' holding jobs
  answered_with replies s' last' added going settled told after rests last_is jobs_are same going' blobs = record {
    listed = subst (λ (is : List SessionItem). IsListed l service is new.waiting s') (sym added.items)
        (subst (λ (ws : List (List ℕ)). IsListed l service (item.Made (entry.Call message) ∷ old.items) ws s') (sym added.waiting)
        (made l service old.items old.waiting s s' (entry.Call message) replies k.listed (
          subst (λ (t : Session). has_ended t.events ≡ false) (sym k.listed.stands) going,
          k.at_rest,
          subst (λ (t : Session). IsSettledIn l t (awaited_of l service t read)) (sym k.listed.stands) settled,
        )
        (ap (λ (t : Session). map reply_spelling (told_to l service t read)) k.listed.stands ∙
        told) after));
    at_rest = ap (λ (is : List SessionItem). due l service (heard_in service is)) added.items
        ∙ ap (λ (t : Session). due_of l service t read) k.listed.stands ∙ rests;
    last_is = last_is;
    workers = k.workers;
    jobs_are = jobs_are;
    holders_are = k.holders_are ∙ sym (ap (λ (hs : List ℕ). length hs) same);
    blobs_are = blobs;
    room = subst (λ (b : Bool). holding + (if b then 0 else 1) ≤ new.free) (sym going') added.free;
  }

  -- the same of what the message asks
  pub answered_as : (r : Result EditorMessage Refusal) → read ≡ r → (replies : List (List ℕ)) (s' : Session) (last' : ℕ)
      → WasAdded old new (entry.Call message) replies holding → has_ended s.events ≡ false
      → IsSettledIn l s (awaited_of l service s r)
      → map reply_spelling (told_to l service s r) ≡ replies
      → answered s (taken l service s r) ≡ s' → due_of l service s r ≡ Nothing
      → last' ≡ (document l s').last → AreKeptJobs l service s' jobs → holders s'.events ≡ holders s.events → has_ended s'.events ≡ false
      → (document l s').tip.blobs ≡ s'.buffer.document.blobs → IsKept l service new s' last' holding jobs
  answered_as r is replies s' last' added going settled told after rests = answered_with replies s' last' added going
      (subst (λ (x : Result EditorMessage Refusal). IsSettledIn l s (awaited_of l service s x)) (sym is) settled)
      (ap (λ (x : Result EditorMessage Refusal). map reply_spelling (told_to l service s x)) is ∙
      told)
      (ap (λ (x : Result EditorMessage Refusal). answered s (taken l service s x)) is ∙ after)
      (ap (λ (x : Result EditorMessage Refusal). due_of l service s x) is ∙ rests)

  -- a message that is refused
  pub refused_kept : (reason : Refusal) → WasAdded old new (entry.Call message) (reply_spelling (tells.Refused reason) ∷ []) holding
      → has_ended s.events ≡ false → taken l service s read ≡ Err reason
      → IsKept l service new (answered s (Err reason)) last holding jobs
  refused_kept reason added going refused = answered_with (reply_spelling (tells.Refused reason) ∷ []) (answered s (Err reason)) last added going
      (subst (λ (o : Option Version). IsSettledIn l s o) (sym (refused_awaits l service s read reason refused)) tt)
      (ap (λ (ts : List Told). map reply_spelling ts)
      (refused_told l service s read reason refused))
      (ap (λ (r : Result Session Refusal). answered s r) refused)
      (refused_due l service s read reason refused) k.last_is
      (jobs_on l s (answered s (Err reason)) refl (λ who. refl) (λ e x at. at) service jobs k.jobs_are) refl going k.blobs_are

  -- one that only looks
  pub look_kept : (bytes : List ℕ) → WasAdded old new (entry.Call message) (bytes ∷ []) holding → has_ended s.events ≡ false
      → IsLook l service s read bytes → IsKept l service new (record s { called = true }) last holding jobs
  look_kept bytes added going look = answered_with (bytes ∷ []) (record s { called = true }) last added going look.settled look.told
      (ap (λ (r : Result Session Refusal). answered s r) look.accepted) look.rests k.last_is
      (jobs_on l s (record s { called = true }) refl (λ who. refl) (λ e x at. at) service jobs k.jobs_are) refl going k.blobs_are

-- the end
module _ {S : Type 0} (l : Lang S) (service : Service) (old new : Log Service Entry) (s : Session) (last holding : ℕ)
    (jobs : ℕ → Option (Work S)) (k : IsKept l service old s last holding jobs) where
  pub ended_kept : (s' : Session) → with_event s event.Ended ≡ s' → new.items ≡ item.Made entry.Ended ∷ old.items
      → new.waiting ≡ old.waiting ++ [] → new.free + 1 ≡ old.free → has_ended s.events ≡ false
      → IsKept l service new s' last holding jobs
  ended_kept s' same items waiting free going = subst (λ (t : Session). IsKept l service new t last holding jobs) same (record {
    listed = subst (λ (is : List SessionItem). IsListed l service is new.waiting (with_event s event.Ended)) (sym items)
        (subst (λ (ws : List (List ℕ)). IsListed l service (item.Made entry.Ended ∷ old.items) ws (with_event s event.Ended)) (sym waiting)
        (made l service old.items old.waiting s (with_event s event.Ended) entry.Ended [] k.listed
        (subst (λ (t : Session). has_ended t.events ≡ false) (sym k.listed.stands) going, k.at_rest) refl refl));
    at_rest = ap (λ (is : List SessionItem). due l service (heard_in service is)) items;
    last_is = k.last_is;
    workers = k.workers;
    jobs_are = jobs_on l s (with_event s event.Ended) refl (λ who. refl) (λ e x at. at) service jobs k.jobs_are;
    holders_are = k.holders_are;
    blobs_are = k.blobs_are;
    room = omega (arith, free, subst (λ (b : Bool). holding + (if b then 0 else 1) ≤ old.free) going k.room);
  })
