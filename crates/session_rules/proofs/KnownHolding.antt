-- Who holds parts in a history of one thread.
use Rattle.std.proofs.Common.{◌≡◌, ℕ, zero, suc, Bool, true, false, cond, List, [], ◌∷◌, Option, Some, None, Result, Ok, Err, refl, ap, subst, ◌∙◌, arith}
use Rattle.std.proofs.lemmas.Bool.{ne_eqb}
use Rattle.std.specs.Prelude.{◌==◌, ◌||◌, is_some, nat_lt, if◌then◌else◌, length}
use Rattle.std.specs.Option.{is_none}
use Rattle.core_tables.specs.declared.versions.Removing.{Removing}
use Rattle.core_tables.specs.declared.versions.Removing.TheVariants as answer
use Rattle.core_tables.specs.Removal.{removing}
use Rattle.doc_nodes.specs.Imports.{NodeList}
use Rattle.exec_rules.specs.declared.version.Version.{Version}
use Rattle.exec_rules.specs.Kept.{BlobList}
use Rattle.language.specs.Lang.{Lang}
use Rattle.message_values.specs.declared.editor_message.EditorMessage.{EditorMessage}
use Rattle.message_values.specs.declared.editor_message.EditorMessage.TheVariants as asks
use Rattle.message_values.specs.declared.refusal.Refusal.{Refusal}
use Rattle.message_values.specs.declared.refusal.Refusal.TheVariants.{VersionNotHigher, UnknownExecution, Limit, ProtocolFixed, NothingToStep}
use Rattle.buffer_laws.specs.buffer_rules_below.Preparing.{prepared}
use Rattle.buffer_laws.specs.buffer_rules_below.Updates.{Asked}
use Rattle.buffer_laws.specs.buffer_rules_below.Trying.{◌>>=◌}
use Rattle.core_rules.specs.declared.event.Event.{Event}
use Rattle.core_rules.specs.declared.event.Event.TheVariants as event
use Rattle.core_rules.specs.Assigned.{is_assigned}
use Rattle.core_rules.specs.Ready.{first_ready}
use Rattle.core_rules.specs.Standing.{has_ended, held}
use Rattle.session_rules.specs.declared.service.Service.{Service}
use Rattle.session_rules.specs.Heard.{Heard, Message, Claimed, Finished, Dropped, Ended}
use Rattle.session_rules.specs.Session.{Session, answered, document, with_event}
use Rattle.session_rules.specs.Looking.{looked_at, settles}
use Rattle.session_rules.specs.Updating.{removed_by, runs_out, with_buffer}
use Rattle.session_rules.specs.Accepting.{accepted, taken}
use Rattle.session_rules.specs.History.{session}
use Rattle.session_rules.specs.Legal.{awaited}
use Rattle.session_rules.specs.Alone.{IsAlone}

-- a step that isn't refused
pub through : {A : Type 0} (Q : Type 0) (r : Result A Refusal) (f : A → Result Session Refusal) (after : Session) → (r >>= f) ≡ Ok after
    → ((a : A) → f a ≡ Ok after → Q) → Q
through Q (Ok a) f after e k = k a e
through Q (Err reason) f after e k = absurd (cc)

pub passed : (b : Bool) (r : Result Session Refusal) (reason : Refusal) (after : Session) → (if b then r else Err reason) ≡ Ok after → r ≡ Ok after
passed true r reason after e = e
passed false r reason after e = absurd (cc)

pub not_caught : (b : Bool) (r : Result Session Refusal) (reason : Refusal) (after : Session) → (if b then Err reason else r) ≡ Ok after → r ≡ Ok after
not_caught true r reason after e = absurd (cc)
not_caught false r reason after e = e

-- what updates, cancellations and removals leave as it is, messages leave
module _ {A : Type 0} (f : List Event → A)
    (update : (id : ℕ) (nodes : NodeList) (blobs : BlobList) (h : List Event) → f (event.Update id nodes blobs ∷ h) ≡ f h)
    (cancel : (exec : ℕ) (h : List Event) → f (event.Cancel exec ∷ h) ≡ f h)
    (remove : (ids : List ℕ) (h : List Event) → f (event.Remove ids ∷ h) ≡ f h)
    {S : Type 0} (l : Lang S) (service : Service) (s : Session) where
  abbrev Same : Session → Type 0
  Same after = f after.events ≡ f s.events

  same_after : (t after : Session) → Same t → ◌≡◌ {A = Result Session Refusal} (Ok t) (Ok after) → Same after
  same_after t after same e = let is : t ≡ after = cc in subst Same is same

  removed_same : (ids : List ℕ) (r : Removing) (after : Session) → removed_by s ids r ≡ Ok after → Same after
  removed_same ids answer.Removed after e = same_after (with_event s (event.Remove ids)) after (remove ids s.events) e
  removed_same ids (answer.Unknown id) after e = absurd (cc)
  removed_same ids answer.Tip after e = absurd (cc)

  accepted_same : (after : Session) (m : EditorMessage) → accepted l service s m ≡ Ok after → Same after
  accepted_same after (asks.Update version items blobs) e =
      let wanted : Asked = record { items = items; blobs = blobs } in
      let inner = passed (nat_lt (document l s).last version) (prepared s.buffer (length (document l s).live) wanted >>= λ buffer.
      if runs_out (document l s) buffer then Err Limit else Ok (with_buffer s version buffer)) VersionNotHigher after e in
      through (Same after) (prepared s.buffer (length (document l s).live) wanted)
      (λ buffer. if runs_out (document l s) buffer then Err Limit else Ok (with_buffer s version buffer)) after inner
      (λ buffer so. same_after (with_buffer s version buffer) after (update version buffer.nodes buffer.document.blobs s.events)
      (not_caught (runs_out (document l s) buffer) (Ok (with_buffer s version buffer)) Limit after so))
  accepted_same after (asks.Snapshot version node edits) e =
      through (Same after) (looked_at l s version node edits) (λ looked. Ok s) after e (λ looked so. same_after s after refl so)
  accepted_same after (asks.Cancel exec) e = same_after (with_event s (event.Cancel exec)) after (cancel exec s.events)
      (passed (is_assigned (document l s).live exec) (Ok (with_event s (event.Cancel exec))) UnknownExecution after e)
  accepted_same after (asks.RemoveVersions versions) e = removed_same versions (removing (document l s).live versions) after e
  accepted_same after (asks.Settle version) e =
      through (Same after) (settles l service s version) (λ settling. Ok s) after e (λ settling so. same_after s after refl so)
  accepted_same after (asks.Protocol protocol) e = same_after (record s { protocol = protocol }) after refl
      (not_caught s.called (Ok (record s { protocol = protocol })) ProtocolFixed after e)
  accepted_same after (asks.Claim worker) e = same_after s after refl
      (not_caught (is_some (held s.events worker) || is_none (first_ready l s.events)) (Ok s) NothingToStep after e)
  accepted_same after (asks.Finish worker) e = same_after s after refl
      (passed (is_some (held s.events worker)) (Ok s) NothingToStep after e)
  accepted_same after (asks.Theory node text) e = absurd (cc)

  answered_same : (r : Result Session Refusal) → ((after : Session) → r ≡ Ok after → Same after) → Same (answered s r)
  answered_same (Ok after) each = each after refl
  answered_same (Err reason) each = refl

  left_alone : (read : Result EditorMessage Refusal) → f (answered s (taken l service s read)).events ≡ f s.events
  left_alone (Ok m) = answered_same (accepted l service s m) (λ after e. accepted_same after m e)
  left_alone (Err reason) = refl

-- a message takes no part and ends none
pub message_same : {S : Type 0} (l : Lang S) (service : Service) (s : Session) (w : ℕ) (read : Result EditorMessage Refusal)
    → held (answered s (taken l service s read)).events w ≡ held s.events w
message_same l service s w read =
    left_alone (λ h. held h w) (λ id nodes blobs h. refl) (λ exec h. refl) (λ ids h. refl) l service s read

-- nor does it end the session
pub message_goes : {S : Type 0} (l : Lang S) (service : Service) (s : Session) (read : Result EditorMessage Refusal)
    → has_ended (answered s (taken l service s read)).events ≡ has_ended s.events
message_goes l service s read =
    left_alone (λ h. has_ended h) (λ id nodes blobs h. refl) (λ exec h. refl) (λ ids h. refl) l service s read

not_zero : (w : ℕ) → (suc w == 0) ≡ false
not_zero w = ne_eqb (suc w) 0 (λ e. omega (arith, e))

-- the reader holds nothing
module _ {S : Type 0} (l : Lang S) (service : Service) where
  abbrev Idle : List Heard → Type 0
  Idle h = held (session l service h).events 0 ≡ None

  pub reader_idle : (waited : Option Version) (h : List Heard) → IsAlone l service waited h → Idle h
  reader_idle waited [] a = refl
  reader_idle waited (Message read ∷ h) a =
      message_same l service (session l service h) 0 read ∙ reader_idle (awaited l service h read) h a
  reader_idle waited (Ended ∷ h) a = reader_idle None h a
  reader_idle waited (Claimed (suc w) p ∷ h) a =
      ap (λ b. cond b (Some p) (held (session l service h).events 0)) (not_zero w) ∙ reader_idle None h a
  reader_idle None (Finished (suc w) p ∷ h) a =
      ap (λ b. cond b None (held (session l service h).events 0)) (not_zero w) ∙ reader_idle None h a
  reader_idle (Some version) (Finished (suc w) p ∷ h) a =
      ap (λ b. cond b None (held (session l service h).events 0)) (not_zero w) ∙ reader_idle None h a
  reader_idle waited (Dropped (suc w) p ∷ h) a =
      ap (λ b. cond b None (held (session l service h).events 0)) (not_zero w) ∙ reader_idle None h a
  reader_idle waited (Finished zero p ∷ h) a = refl
  reader_idle waited (Dropped zero p ∷ h) a = refl
  reader_idle waited (Claimed zero p ∷ h) a = absurd (a)
