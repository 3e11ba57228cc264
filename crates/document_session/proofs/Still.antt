-- A session of which only the room has changed.
use Rattle.std.proofs.Common.{◌≡◌, ℕ, ◌≤◌, false, List, Option, Result, IfOk, sym, ap, subst, ◌∙◌}
use Rattle.std.specs.Prelude.{OnErr}
use Rattle.language.specs.Lang.{Lang}
use Rattle.message_values.specs.declared.editor_message.EditorMessage.{EditorMessage}
use Rattle.message_values.specs.declared.refusal.Refusal.{Refusal}
use Rattle.message_values.specs.Asked.{asked}
use Rattle.core_rules.specs.declared.event.Event.{Event}
use Rattle.core_rules.specs.Standing.{has_ended}
use Rattle.reply_outbox.specs.Waiting.{Log}
use Rattle.session_rules.specs.declared.entry.Entry.{Entry}
use Rattle.session_rules.specs.declared.service.Service.{Service}
use Rattle.session_rules.specs.Services.{mode_of}
use Rattle.session_rules.specs.Session.{Session}
use Rattle.keeping_rules.specs.Items.{SessionItem, session_in}
use Rattle.keeping_rules.specs.session_replies_below.Works.{Work}
use Rattle.keeping_rules.specs.Kept.{IsListed, IsKept}
use Rattle.keeping_rules.specs.States.{with_past}
use Rattle.document_session.specs.declared.taking.Taken.{Taken}
use Rattle.document_session.specs.Answers.{TakenSo}
use Rattle.document_session.specs.Contents.{SessionState}
use Rattle.document_session.proofs.Rooms.{room_kept}
use Rattle.document_session.proofs.Tables.{table_kept}

-- what contracts see of it
abbrev seen_with : Service → List SessionItem → List (List ℕ) → SessionState
seen_with service items waiting = record { service = service; items = items; waiting = waiting }

abbrev pub seen : Service → Log Service Entry → SessionState
seen service log = seen_with service log.items log.waiting

-- what a message asks is read in the same mode inside
pub asked_inside : (service : Service) (log : Log Service Entry) (now : SessionState) → seen service log ≡ now → (message : List (List ℕ))
    (r : Result EditorMessage Refusal) → asked (mode_of now.service) message ≡ r → asked (mode_of service) message ≡ r
asked_inside service log now same message r read = subst (λ (x : SessionState). asked (mode_of x.service) message ≡ r) (sym same) read

-- contracts see nothing of the room
pub still : (service : Service) (log mid : Log Service Entry) (now : SessionState) → seen service log ≡ now → mid.items ≡ log.items
    → mid.waiting ≡ log.waiting → seen service mid ≡ now
still service log mid now same items waiting =
    ap (λ (is : List SessionItem). seen_with service is mid.waiting) items
    ∙ ap (λ (ws : List (List ℕ)). seen_with service log.items ws) waiting ∙ same

-- so what is told of the room's session is told of the one before
pub still_taken : {S E : Type 0} (l : Lang S) (service : Service) (log mid : Log Service Entry) (now : SessionState) → seen service log ≡ now
    → mid.items ≡ log.items → mid.waiting ≡ log.waiting → (message : List (List ℕ)) (result : Result Taken E) (new : List SessionItem)
    → IfOk result (λ t. TakenSo l service message mid.items t new) → IfOk result (λ t. TakenSo l now.service message now.items t new)
still_taken l service log mid now same items waiting message result new told =
    subst (λ (x : SessionState). IfOk result (λ t. TakenSo l x.service message x.items t new)) (still service log mid now same items waiting) told

-- and what fails leaves the one before as it was
pub still_err : {E : Type 0} (service : Service) (log mid : Log Service Entry) (now : SessionState) → seen service log ≡ now → mid.items ≡ log.items
    → mid.waiting ≡ log.waiting → (result : Result Taken E) (new : SessionState) → OnErr result (new ≡ seen service mid) → OnErr result (new ≡ now)
still_err service log mid now same items waiting result new told =
    subst (λ (x : SessionState). OnErr result (new ≡ x)) (still service log mid now same items waiting) told

-- it goes on
pub still_going : {S : Type 0} (l : Lang S) (service : Service) (log mid : Log Service Entry) (now : SessionState) → seen service log ≡ now
    → mid.items ≡ log.items → mid.waiting ≡ log.waiting → has_ended (session_in l now.service now.items).events ≡ false
    → has_ended (session_in l service mid.items).events ≡ false
still_going l service log mid now same items waiting going =
    subst (λ (x : SessionState). has_ended (session_in l x.service x.items).events ≡ false) (sym (still service log mid now same items waiting)) going

-- what is known in its parts is known
pub known_still : {S : Type 0} (l : Lang S) (Q : Service → Session → Type 0) (service : Service) (log mid : Log Service Entry) (s : Session)
    → IsListed l service log.items log.waiting s → mid.items ≡ log.items → Q service s → Q service (session_in l service mid.items)
known_still l Q service log mid s k items q = subst (λ (is : List SessionItem). Q service (session_in l service is)) (sym items)
    (subst (Q service) (sym k.stands) q)

-- what is kept is as it was
pub still_kept : {S : Type 0} (l : Lang S) (service : Service) (log mid : Log Service Entry) (s : Session) (last holding : ℕ)
    (jobs now : ℕ → Option (Work S)) → IsKept l service log s last holding jobs → mid.items ≡ log.items → mid.waiting ≡ log.waiting
    → log.free ≤ mid.free → (past : List Event) → past ≡ s.events → ((w : ℕ) → now w ≡ jobs w)
    → IsKept l service mid (with_past s past) last holding now
still_kept l service log mid s last holding jobs now k items waiting free past past_is same =
    table_kept l service mid (with_past s past) last holding jobs now (room_kept l service log s last holding jobs k mid (with_past s past)
    items waiting free (ap (λ (h : List Event). with_past s h) (sym past_is))) same
