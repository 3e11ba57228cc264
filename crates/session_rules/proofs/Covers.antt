-- What a version covers, and what holds of each message.
use Rattle.std.proofs.Common.{◌≡◌, ℕ, ◌≤◌, true, false, List, [], ◌∷◌, length, Some, Result, Ok, Err, ap, subst, ◌∙◌}
use Rattle.std.specs.Prelude.{if◌then◌else◌, nat_lt, slice_get}
use Rattle.text_words.specs.Members.{has}
use Rattle.doc_nodes.specs.declared.node.Node.{Node}
use Rattle.doc_nodes.specs.Imports.{NodeList}
use Rattle.doc_nodes.specs.Wanted.{wanted_at}
use Rattle.exec_rules.specs.Kept.{BlobList}
use Rattle.language.specs.Lang.{Lang}
use Rattle.message_values.specs.declared.editor_message.EditorMessage.{EditorMessage}
use Rattle.message_values.specs.declared.editor_message.EditorMessage.TheVariants as asks
use Rattle.message_values.specs.declared.item.BlobChange.{BlobChange}
use Rattle.message_values.specs.declared.item.Item.{Item}
use Rattle.message_values.specs.declared.refusal.Refusal.{Refusal}
use Rattle.message_values.specs.declared.refusal.Refusal.TheVariants.{Limit, VersionNotHigher}
use Rattle.buffer_laws.specs.buffer_rules_below.Preparing.{Buffer, prepared}
use Rattle.buffer_laws.specs.buffer_rules_below.Trying.{◌>>=◌}
use Rattle.buffer_laws.specs.buffer_rules_below.Updates.{Asked}
use Rattle.core_rules.specs.declared.event.Event.{Event}
use Rattle.core_rules.specs.declared.event.Event.TheVariants.{Update}
use Rattle.core_rules.specs.Assigned.{assigns}
use Rattle.core_rules.specs.Doc.{Doc, assignment_of, doc, assigned_version}
use Rattle.core_rules.specs.FromScratch.{assigned_to}
use Rattle.core_rules.specs.Legal.{IsLegal as IsLegalList}
use Rattle.session_rules.specs.declared.service.Service.{Service}
use Rattle.session_rules.specs.Heard.{Heard, Message, Claimed, Finished, Dropped, Ended}
use Rattle.session_rules.specs.Session.{Session, answered, document}
use Rattle.session_rules.specs.Accepting.{accepted, taken}
use Rattle.session_rules.specs.History.{session}
use Rattle.session_rules.specs.Legal.{IsLegal}
use Rattle.session_rules.specs.Updating.{runs_out, with_buffer}
use Rattle.session_rules.specs.Keeping.{KeepsFront}
use Rattle.session_rules.specs.Promises.{CoversSo, EachMessage, IsCovered, KeepsSo, LeavesCancelled}
use Rattle.session_rules.proofs.KnownHolding.{not_caught, passed, through}

-- an update that isn't refused adds its event
pub made_by : {S : Type 0} (l : Lang S) (service : Service) (s : Session) (id : ℕ) (items : List Item) (blobs : List BlobChange) (after : Session)
    (Q : Session → Type 0) → ((buffer : Buffer) → Q (with_buffer s id buffer)) → accepted l service s (asks.Update id items blobs) ≡ Ok after → Q after
made_by l service s id items blobs after Q each e =
    let wanted : Asked = record { items = items; blobs = blobs } in
    let inner = passed (nat_lt (document l s).last id) (prepared s.buffer (length (document l s).live) wanted >>= λ buffer.
    if runs_out (document l s) buffer then Err Limit else Ok (with_buffer s id buffer)) VersionNotHigher after e in
    through (Q after) (prepared s.buffer (length (document l s).live) wanted)
    (λ buffer. if runs_out (document l s) buffer then Err Limit else Ok (with_buffer s id buffer)) after inner
    (λ buffer so.
    let made : ◌≡◌ {A = Result Session Refusal} (Ok (with_buffer s id buffer)) (Ok after) =
    not_caught (runs_out (document l s) buffer) (Ok (with_buffer s id buffer)) Limit after so in
    let same : with_buffer s id buffer ≡ after = cc in subst Q same (each buffer))

-- each update covers what is wanted
pub covers_each : {S : Type 0} (l : Lang S) → ((h : List Event) (id : ℕ) (nodes : List (List ℕ × Node)) (blobs : List (List ℕ × List ℕ)) (p : ℕ)
    (pair : List ℕ × Node) → IsLegalList l (Update id nodes blobs ∷ h) → slice_get nodes p ≡ Some pair
    → wanted_at nodes p ≤ length (assigned_to (doc l (Update id nodes blobs ∷ h)).tip p).rows)
    → (service : Service) (h : List Heard) (read : Result EditorMessage Refusal)
    → IsLegalList l (session l service (Message read ∷ h)).events → CoversSo l service h read
covers_each l covers service h read legal id items blobs after asks_it accepts =
    let s = session l service h in
    let same : (answered s (taken l service s read)).events ≡ after.events =
    ap (λ (r : Result EditorMessage Refusal). (answered s (taken l service s r)).events) asks_it
    ∙ ap (λ (r : Result Session Refusal). (answered s r).events) accepts in
    made_by l service s id items blobs after (λ t. IsLegalList l t.events → IsCovered (document l t).tip)
    (λ buffer all p pair at. covers s.events id buffer.nodes buffer.document.blobs p pair all at) accepts (subst (IsLegalList l) same legal)

-- and assigns nothing that was cancelled
pub leaves_each : {S : Type 0} (l : Lang S) → ((h : List Event) (id : ℕ) (nodes : List (List ℕ × Node)) (blobs : List (List ℕ × List ℕ)) (e : ℕ)
    → has (doc l h).cancelled e ≡ true → assigns (doc l (Update id nodes blobs ∷ h)).tip e ≡ false)
    → (service : Service) (h : List Heard) (read : Result EditorMessage Refusal) → LeavesCancelled l service h read
leaves_each l leaves service h read id items blobs after e asks_it accepts cancelled =
    made_by l service (session l service h) id items blobs after (λ t. assigns (document l t).tip e ≡ false)
    (λ buffer. leaves (session l service h).events id buffer.nodes buffer.document.blobs e cancelled) accepts

-- and keeps what it can
pub keeps_each : {S : Type 0} (l : Lang S) → ((d : Doc) (nodes : NodeList) (blobs : BlobList) (p : ℕ) (pair : List ℕ × Node)
    → slice_get nodes p ≡ Some pair
    → KeepsFront d (assigned_version nodes blobs (assignment_of d nodes blobs)) p pair)
    → (service : Service) (h : List Heard) (read : Result EditorMessage Refusal) → KeepsSo l service h read
keeps_each l keeps service h read id items blobs after p pair asks_it accepts =
    made_by l service (session l service h) id items blobs after
    (λ t. slice_get (document l t).tip.nodes p ≡ Some pair → KeepsFront (document l (session l service h)) (document l t).tip p pair)
    (λ buffer at. keeps (document l (session l service h)) buffer.nodes buffer.document.blobs p pair at) accepts

-- what holds of a message behind each legal history holds of each message
pub each_message : {S : Type 0} (l : Lang S) (service : Service) (P : List Heard → Result EditorMessage Refusal → Type 0)
    → ((h : List Heard) (read : Result EditorMessage Refusal) → IsLegal l service (Message read ∷ h) → P h read)
    → (h : List Heard) → IsLegal l service h → EachMessage P h
each_message l service P all [] legal = tt
each_message l service P all (Message read ∷ h) legal = (each_message l service P all h legal.0, all h read legal)
each_message l service P all (Claimed who p ∷ h) legal = each_message l service P all h legal.0
each_message l service P all (Finished who p ∷ h) legal = each_message l service P all h legal.0
each_message l service P all (Dropped who p ∷ h) legal = each_message l service P all h legal.0
each_message l service P all (Ended ∷ h) legal = each_message l service P all h legal.0
