-- What a job works on stays as it is, whatever comes.
use Rattle.std.proofs.Common.{◌≡◌, ℕ, Bool, true, false, List, [], ◌∷◌, ◌++◌, length, Some, Result, Ok, Err, refl, sym, subst, ◌∙◌}
use Rattle.std.specs.Prelude.{◌||◌, is_some, nat_lt, if◌then◌else◌}
use Rattle.std.specs.Option.{is_none}
use Rattle.core_tables.specs.declared.versions.Removing.{Removing}
use Rattle.core_tables.specs.declared.versions.Removing.TheVariants as answer
use Rattle.core_tables.specs.Removal.{removing}
use Rattle.language.specs.Lang.{Lang}
use Rattle.message_values.specs.declared.editor_message.EditorMessage.{EditorMessage}
use Rattle.message_values.specs.declared.editor_message.EditorMessage.TheVariants as asks
use Rattle.message_values.specs.declared.protocol.Protocol.{Protocol}
use Rattle.message_values.specs.declared.refusal.Refusal.{Refusal}
use Rattle.message_values.specs.declared.refusal.Refusal.TheVariants.{VersionNotHigher, UnknownExecution, Limit, ProtocolFixed, NothingToStep}
use Rattle.buffer_rules.specs.Preparing.{Buffer, prepared}
use Rattle.buffer_rules.specs.Updates.{Asked}
use Rattle.buffer_rules.specs.Trying.{◌>>=◌}
use Rattle.core_rules.specs.declared.event.Event.{Event}
use Rattle.core_rules.specs.declared.event.Event.TheVariants as event
use Rattle.core_rules.specs.Assigned.{is_assigned}
use Rattle.core_rules.specs.Doc.{doc}
use Rattle.core_rules.specs.Ready.{first_ready}
use Rattle.core_rules.specs.Settings.{Setting, setting}
use Rattle.core_rules.specs.Standing.{held}
use Rattle.session_rules.specs.declared.service.Service.{Service}
use Rattle.session_rules.specs.Heard.{Heard, Message, Claimed, Finished, Dropped, Ended, heard}
use Rattle.session_rules.specs.Session.{Session, answered, document, with_event}
use Rattle.session_rules.specs.Looking.{looked_at, settles}
use Rattle.session_rules.specs.Updating.{removed_by, runs_out, with_buffer}
use Rattle.session_rules.specs.Accepting.{accepted, taken}
use Rattle.session_rules.specs.History.{session}
use Rattle.session_rules.proofs.KnownHolding.{not_caught, passed, through}
use Rattle.reply_outbox.specs.declared.item.Item.TheVariants as item
use Rattle.keeping_rules.specs.Items.{SessionItem, heard_in, session_in}

-- what an execution works on stays so by one event more
abbrev pub StaysLaw : {S : Type 0} → Lang S → Type 0
StaysLaw {S} l = (x : Event) (h : List Event) (e : ℕ) (s : Setting S) → setting l (doc l h).homes e ≡ Some s
    → setting l (doc l (x ∷ h)).homes e ≡ Some s

module _ {S : Type 0} (l : Lang S) where
  -- a session goes on to another: executions work on what they work on, and the protocol stays once a message came
  pub record GoesOn (s after : Session) : Type 0 where
    pub works : (e : ℕ) (t : Setting S) → setting l (document l s).homes e ≡ Some t → setting l (document l after).homes e ≡ Some t
    pub protocol : s.called ≡ true → after.protocol ≡ s.protocol
    pub called : s.called ≡ true → after.called ≡ true

  stands : (s : Session) → GoesOn s s
  stands s = record { works = λ e t is. is; protocol = λ is. refl; called = λ is. is }

  goes_then : (r s t : Session) → GoesOn r s → GoesOn s t → GoesOn r t
  goes_then r s t first second = record {
    works = λ e x is. second.works e x (first.works e x is);
    protocol = λ is. second.protocol (first.called is) ∙ first.protocol is;
    called = λ is. second.called (first.called is);
  }

  goes_to : (s t after : Session) → GoesOn s t → ◌≡◌ {A = Result Session Refusal} (Ok t) (Ok after) → GoesOn s after
  goes_to s t after goes e = let is : t ≡ after = cc in subst (GoesOn s) is goes

  module _ (stays : StaysLaw l) where
    -- by one event more
    goes_by : (s : Session) (b : Buffer) (x : Event) → GoesOn s (with_event (record s { buffer = b }) x)
    goes_by s b x = record { works = λ e t is. stays x s.events e t is; protocol = λ is. refl; called = λ is. is }

    removed_goes : (s after : Session) (ids : List ℕ) (r : Removing) → removed_by s ids r ≡ Ok after → GoesOn s after
    removed_goes s after ids answer.Removed e = goes_to s (with_event s (event.Remove ids)) after (goes_by s s.buffer (event.Remove ids)) e
    removed_goes s after ids (answer.Unknown id) e = absurd (cc)
    removed_goes s after ids answer.Tip e = absurd (cc)

    chosen_goes : (s after : Session) (protocol : Protocol) (b : Bool) → s.called ≡ b
        → ◌≡◌ {A = Result Session Refusal} (if b then Err ProtocolFixed else Ok (record s { protocol = protocol })) (Ok after) → GoesOn s after
    chosen_goes s after protocol true came e = absurd (cc)
    chosen_goes s after protocol false none e = goes_to s (record s { protocol = protocol }) after
        (record { works = λ e t is. is; protocol = λ is. absurd (let no : false ≡ true = sym none ∙ is in cc); called = λ is. is }) e

    module _ (service : Service) (s : Session) where
      accepted_goes : (after : Session) (m : EditorMessage) → accepted l service s m ≡ Ok after → GoesOn s after
      accepted_goes after (asks.Update version items blobs) e =
          let wanted : Asked = record { items = items; blobs = blobs } in
          let inner = passed (nat_lt (document l s).last version) (prepared s.buffer (length (document l s).live) wanted >>= λ buffer.
          if runs_out (document l s) buffer then Err Limit else Ok (with_buffer s version buffer)) VersionNotHigher after e in
          through (GoesOn s after) (prepared s.buffer (length (document l s).live) wanted)
          (λ buffer. if runs_out (document l s) buffer then Err Limit else Ok (with_buffer s version buffer)) after inner
          (λ buffer so. goes_to s (with_buffer s version buffer) after
          (goes_by s buffer (event.Update version buffer.nodes buffer.document.blobs))
          (not_caught (runs_out (document l s) buffer) (Ok (with_buffer s version buffer)) Limit after so))
      accepted_goes after (asks.Snapshot version node edits) e =
          through (GoesOn s after) (looked_at l s version node edits) (λ looked. Ok s) after e (λ looked so. goes_to s s after (stands s) so)
      accepted_goes after (asks.Cancel exec) e = goes_to s (with_event s (event.Cancel exec)) after (goes_by s s.buffer (event.Cancel exec))
          (passed (is_assigned (document l s).live exec) (Ok (with_event s (event.Cancel exec))) UnknownExecution after e)
      accepted_goes after (asks.RemoveVersions versions) e = removed_goes s after versions (removing (document l s).live versions) e
      accepted_goes after (asks.Settle version) e =
          through (GoesOn s after) (settles l service s version) (λ settling. Ok s) after e (λ settling so. goes_to s s after (stands s) so)
      accepted_goes after (asks.Protocol protocol) e = chosen_goes s after protocol s.called refl e
      accepted_goes after (asks.Claim worker) e = goes_to s s after (stands s)
          (not_caught (is_some (held s.events worker) || is_none (first_ready l s.events)) (Ok s) NothingToStep after e)
      accepted_goes after (asks.Finish worker) e = goes_to s s after (stands s) (passed (is_some (held s.events worker)) (Ok s) NothingToStep after e)
      accepted_goes after (asks.Theory node text) e = absurd (cc)

      answered_goes : (r : Result Session Refusal) → ((after : Session) → r ≡ Ok after → GoesOn s after) → GoesOn s (answered s r)
      answered_goes (Ok after) each =
          let goes = each after refl in record { works = goes.works; protocol = goes.protocol; called = λ is. refl }
      answered_goes (Err reason) each = record { works = λ e t is. is; protocol = λ is. refl; called = λ is. refl }

      message_goes : (read : Result EditorMessage Refusal) → GoesOn s (answered s (taken l service s read))
      message_goes (Ok m) = answered_goes (accepted l service s m) (λ after e. accepted_goes after m e)
      message_goes (Err reason) = record { works = λ e t is. is; protocol = λ is. refl; called = λ is. refl }

    module _ (service : Service) where
      heard_goes : (h : List Heard) (x : Heard) → GoesOn (session l service h) (session l service (x ∷ h))
      heard_goes h (Message read) = message_goes service (session l service h) read
      heard_goes h (Claimed who part) = let s = session l service h in goes_by s s.buffer (event.Claimed who part)
      heard_goes h (Finished who part) = let s = session l service h in goes_by s s.buffer (event.Finished who part)
      heard_goes h (Dropped who part) = let s = session l service h in goes_by s s.buffer (event.Dropped who part)
      heard_goes h Ended = let s = session l service h in goes_by s s.buffer event.Ended

      -- a session goes on whatever comes
      pub items_go : (new items : List SessionItem) → GoesOn (session_in l service items) (session_in l service (new ++ items))
      items_go [] items = stands (session_in l service items)
      items_go (item.Opened other ∷ new) items = items_go new items
      items_go (item.Sent writer len ∷ new) items = items_go new items
      items_go (item.Lost writer ∷ new) items = items_go new items
      items_go (item.Made entry ∷ new) items = goes_then (session_in l service items) (session_in l service (new ++ items))
          (session_in l service (item.Made entry ∷ new ++ items)) (items_go new items)
          (heard_goes (heard_in service (new ++ items)) (heard service entry))
