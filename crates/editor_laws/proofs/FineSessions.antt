-- What updates of a legal history name.
use Rattle.std.proofs.Common.{◌≡◌, ℕ, List, [], ◌∷◌, length, Result, Ok, Err, nat_lt, refl, subst, sym}
use Rattle.std.specs.Prelude.{if◌then◌else◌, ◌||◌, is_some}
use Rattle.std.specs.Option.{is_none}
use Rattle.std.specs.List.{AllByRecursion}
use Rattle.core_tables.specs.declared.versions.Removing.{Removing}
use Rattle.core_tables.specs.declared.versions.Removing.TheVariants as answer
use Rattle.core_tables.specs.Removal.{removing}
use Rattle.language.specs.Lang.{Lang}
use Rattle.message_values.specs.declared.editor_message.EditorMessage.{EditorMessage}
use Rattle.message_values.specs.declared.editor_message.EditorMessage.TheVariants as asks
use Rattle.message_values.specs.declared.refusal.Refusal.{Refusal}
use Rattle.message_values.specs.declared.refusal.Refusal.TheVariants.{Limit, NothingToStep, ProtocolFixed, UnknownExecution, VersionNotHigher}
use Rattle.message_values.specs.Fits.{Fits}
use Rattle.buffer_rules.specs.Nodes.{nodes_after}
use Rattle.buffer_rules.specs.Preparing.{Buffer, prepared}
use Rattle.buffer_rules.specs.Trying.{◌>>=◌}
use Rattle.buffer_rules.specs.Updates.{Asked}
use Rattle.core_rules.specs.declared.event.Event.{Event}
use Rattle.core_rules.specs.declared.event.Event.TheVariants as event
use Rattle.core_rules.specs.Assigned.{is_assigned}
use Rattle.core_rules.specs.Ready.{first_ready}
use Rattle.core_rules.specs.Standing.{held}
use Rattle.session_rules.specs.declared.service.Service.{Service}
use Rattle.session_rules.specs.Heard.{Heard, Message, Claimed, Finished, Dropped, Ended}
use Rattle.session_rules.specs.Session.{Session, answered, document, with_event}
use Rattle.session_rules.specs.Looking.{looked_at, settles}
use Rattle.session_rules.specs.Updating.{removed_by, runs_out, with_buffer}
use Rattle.session_rules.specs.Accepting.{accepted, taken}
use Rattle.session_rules.specs.History.{session}
use Rattle.session_rules.proofs.KnownHolding.{not_caught, passed, through}
use Rattle.editor_laws.proofs.FineEvents.{FineSession, IsFine, NodeLaws}
use Rattle.editor_laws.proofs.NamedSheets.{AllNamed, document_named, keys_named, named_keys}
use Rattle.editor_laws.proofs.Preparing.{prepares}
use Rattle.editor_laws.proofs.ReadCalls.{IsSound}
use Rattle.reply_messages.specs.Fits.{IsName}

module _ (laws : NodeLaws) {S : Type 0} (l : Lang S) (service : Service) where
  module _ (s : Session) (fine : FineSession s) where
    same_fine : (t after : Session) → FineSession t
        → ◌≡◌ {A = Result Session Refusal} (Ok t) (Ok after) → FineSession after
    same_fine t after is e = let same : t ≡ after = cc in subst FineSession same is

    plain_fine : (x : Event) → IsFine x → FineSession (with_event s x)
    plain_fine x is = record { sheets = fine.sheets; events = (is, fine.events) }

    removed_fine : (ids : List ℕ) (r : Removing) (after : Session) → removed_by s ids r ≡ Ok after
        → FineSession after
    removed_fine ids answer.Removed after e = same_fine (with_event s (event.Remove ids)) after
        (plain_fine (event.Remove ids) tt) e
    removed_fine ids (answer.Unknown id) after e = absurd (cc)
    removed_fine ids answer.Tip after e = absurd (cc)

    buffer_fine : (version : ℕ) (wanted : Asked) (buffer : Buffer)
        → Fits (asks.Update version wanted.items wanted.blobs)
        → prepared s.buffer (length (document l s).live) wanted ≡ Ok buffer
        → FineSession (with_buffer s version buffer)
    buffer_fine version wanted buffer fits e =
        let p = prepares s.buffer buffer (length (document l s).live) wanted e in
        let sheets : AllNamed p.document.sheets = document_named wanted s.buffer.document p.document
        fits.1 fine.sheets p.made in
        let nodes : AllNamed (nodes_after s.buffer.nodes p.document.sheets s.buffer.next).nodes =
        named_keys (nodes_after s.buffer.nodes p.document.sheets s.buffer.next).nodes
        (subst (AllByRecursion IsName) (sym (laws.named s.buffer.nodes p.document.sheets
        s.buffer.next)) (keys_named p.document.sheets sheets)) in
        subst (λ (b : Buffer). FineSession (with_buffer s version b)) p.is (record {
          sheets = sheets;
          events = (
            (fits.0, nodes, laws.headed s.buffer.nodes p.document.sheets s.buffer.next),
            fine.events,
          );
        })

    accepted_fine : (after : Session) (m : EditorMessage) → Fits m
        → accepted l service s m ≡ Ok after → FineSession after
    accepted_fine after (asks.Update version items blobs) fits e =
        let wanted : Asked = record { items = items; blobs = blobs } in
        let inner = passed (nat_lt (document l s).last version)
        (prepared s.buffer (length (document l s).live) wanted >>= λ buffer.
        if runs_out (document l s) buffer then Err Limit else Ok
        (with_buffer s version buffer)) VersionNotHigher after e in
        go wanted (prepared s.buffer (length (document l s).live) wanted) refl inner
      where
        go : (wanted : Asked) (r : Result Buffer Refusal)
            → prepared s.buffer (length (document l s).live)
            (record { items = items; blobs = blobs }) ≡ r
            → (r >>= λ buffer. if runs_out (document l s) buffer then Err Limit else Ok
            (with_buffer s version buffer)) ≡ Ok after → FineSession after
        go wanted (Err reason) one e = absurd (cc)
        go wanted (Ok buffer) one e = same_fine (with_buffer s version buffer) after
            (buffer_fine version (record { items = items; blobs = blobs }) buffer fits one)
            (not_caught (runs_out (document l s) buffer)
            (Ok (with_buffer s version buffer)) Limit after e)
    accepted_fine after (asks.Snapshot version node edits) fits e =
        through (FineSession after) (looked_at l s version node edits) (λ looked. Ok s) after e
        (λ looked so. same_fine s after fine so)
    accepted_fine after (asks.Cancel exec) fits e = same_fine
        (with_event s (event.Cancel exec)) after (plain_fine (event.Cancel exec) tt)
        (passed (is_assigned (document l s).live exec) (Ok
        (with_event s (event.Cancel exec))) UnknownExecution after e)
    accepted_fine after (asks.RemoveVersions versions) fits e =
        removed_fine versions (removing (document l s).live versions) after e
    accepted_fine after (asks.Settle version) fits e =
        through (FineSession after) (settles l service s version) (λ settling. Ok s) after e
        (λ settling so. same_fine s after fine so)
    accepted_fine after (asks.Protocol protocol) fits e =
        same_fine (record s { protocol = protocol }) after
        (record { sheets = fine.sheets; events = fine.events })
        (not_caught s.called (Ok (record s { protocol = protocol })) ProtocolFixed after e)
    accepted_fine after (asks.Claim worker) fits e = same_fine s after fine
        (not_caught (is_some (held s.events worker) || is_none (first_ready l s.events))
        (Ok s) NothingToStep after e)
    accepted_fine after (asks.Finish worker) fits e = same_fine s after fine
        (passed (is_some (held s.events worker)) (Ok s) NothingToStep after e)
    accepted_fine after (asks.Theory node text) fits e = absurd (cc)

    answered_fine : (r : Result Session Refusal) → ((after : Session) → r ≡ Ok after
        → FineSession after) → FineSession (answered s r)
    answered_fine (Ok after) each = let is = each after refl in
        record { sheets = is.sheets; events = is.events }
    answered_fine (Err reason) each = record { sheets = fine.sheets; events = fine.events }

    read_fine : (read : Result EditorMessage Refusal) → IsSound (Message read)
        → FineSession (answered s (taken l service s read))
    read_fine (Err reason) sound = record { sheets = fine.sheets; events = fine.events }
    read_fine (Ok m) sound = answered_fine (accepted l service s m)
        (λ after e. accepted_fine after m sound.0 e)

  pub session_fine : (h : List Heard) → AllByRecursion IsSound h → FineSession (session l service h)
  session_fine [] sound = record { sheets = tt; events = tt }
  session_fine (Message read ∷ h) sound = read_fine (session l service h)
      (session_fine h sound.1) read sound.0
  session_fine (Claimed who part ∷ h) sound = plain_fine (session l service h)
      (session_fine h sound.1) (event.Claimed who part) tt
  session_fine (Finished who part ∷ h) sound = plain_fine (session l service h)
      (session_fine h sound.1) (event.Finished who part) tt
  session_fine (Dropped who part ∷ h) sound = plain_fine (session l service h)
      (session_fine h sound.1) (event.Dropped who part) tt
  session_fine (Ended ∷ h) sound = plain_fine (session l service h)
      (session_fine h sound.1) event.Ended tt
