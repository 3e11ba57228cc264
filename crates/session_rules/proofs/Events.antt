-- The events of a legal history are legal for the core.
use Rattle.std.proofs.Common.{◌≡◌, Bool, true, false, List, [], ◌∷◌, Result, Ok, Err, refl, subst}
use Rattle.std.specs.Prelude.{if◌then◌else◌, is_some, ◌||◌}
use Rattle.std.specs.Option.{is_none}
use Rattle.exec_rules.specs.declared.version.Version.{Version}
use Rattle.language.specs.Lang.{Lang}
use Rattle.message_values.specs.declared.editor_message.EditorMessage.{EditorMessage}
use Rattle.message_values.specs.declared.editor_message.EditorMessage.TheVariants as asks
use Rattle.message_values.specs.declared.refusal.Refusal.{Refusal}
use Rattle.message_values.specs.declared.refusal.Refusal.TheVariants.{ProtocolFixed, NothingToStep}
use Rattle.buffer_laws.specs.buffer_rules_below.Trying.{◌>>=◌}
use Rattle.core_rules.specs.declared.event.Event.TheVariants as event
use Rattle.core_rules.specs.Ready.{first_ready}
use Rattle.core_rules.specs.Standing.{held, has_ended}
use Rattle.session_rules.specs.declared.service.Service.{Service}
use Rattle.session_rules.specs.Heard.{Heard, Message, Claimed, Finished, Dropped, Ended}
use Rattle.session_rules.specs.Session.{Session, answered}
use Rattle.session_rules.specs.Looking.{Looked, looked_at, settles}
use Rattle.session_rules.specs.Accepting.{accepted, taken}
use Rattle.session_rules.specs.History.{session}
use Rattle.session_rules.specs.Legal.{IsLegal}
use Rattle.session_rules.proofs.SoundSteps.{FitLaws, IsSound, still, update_sound, cancel_sound, remove_sound, other_sound}

module _ {S : Type 0} (l : Lang S) (laws : FitLaws) where
  accepted_sound : (service : Service) (s after : Session) (m : EditorMessage) → has_ended s.events ≡ false → IsSound l laws s
      → accepted l service s m ≡ Ok after → IsSound l laws after
  accepted_sound service s after (asks.Update version items blobs) open_ sound e =
      update_sound l laws s after version (record { items = items; blobs = blobs }) open_ sound e
  accepted_sound service s after (asks.Snapshot version node edits) open_ sound e = go (looked_at l s version node edits) e
    where
      go : (o : Result Looked Refusal) → (o >>= λ looked. Ok s) ≡ Ok after → IsSound l laws after
      go (Err reason) e = absurd (cc)
      go (Ok looked) e = let same : s ≡ after = cc in subst (IsSound l laws) same sound
  accepted_sound service s after (asks.Cancel exec) open_ sound e = cancel_sound l laws s after exec open_ sound e
  accepted_sound service s after (asks.RemoveVersions versions) open_ sound e = remove_sound l laws s after versions open_ sound e
  accepted_sound service s after (asks.Settle version) open_ sound e = go (settles l service s version) e
    where
      go : (o : Result Version Refusal) → (o >>= λ settling. Ok s) ≡ Ok after → IsSound l laws after
      go (Err reason) e = absurd (cc)
      go (Ok settling) e = let same : s ≡ after = cc in subst (IsSound l laws) same sound
  accepted_sound service s after (asks.Protocol protocol) open_ sound e = go s.called e
    where
      go : (b : Bool) → ◌≡◌ {A = Result Session Refusal} (if b then Err ProtocolFixed else Ok (record s { protocol = protocol })) (Ok after) → IsSound l laws after
      go true e = absurd (cc)
      go false e = let same : record s { protocol = protocol } ≡ after = cc in subst (IsSound l laws) same (other_sound l laws s (record s { protocol = protocol }) sound refl refl)
  accepted_sound service s after (asks.Claim w) open_ sound e = go (is_some (held s.events w) || is_none (first_ready l s.events)) e
    where
      go : (b : Bool) → ◌≡◌ {A = Result Session Refusal} (if b then Err NothingToStep else Ok s) (Ok after) → IsSound l laws after
      go true e = absurd (cc)
      go false e = let same : s ≡ after = cc in subst (IsSound l laws) same sound
  accepted_sound service s after (asks.Finish w) open_ sound e = go (is_some (held s.events w)) e
    where
      go : (b : Bool) → ◌≡◌ {A = Result Session Refusal} (if b then Ok s else Err NothingToStep) (Ok after) → IsSound l laws after
      go true e = let same : s ≡ after = cc in subst (IsSound l laws) same sound
      go false e = absurd (cc)
  accepted_sound service s after (asks.Theory node text) open_ sound e = absurd (cc)

  answered_sound : (s : Session) (o : Result Session Refusal) → IsSound l laws s → ((after : Session) → o ≡ Ok after → IsSound l laws after) → IsSound l laws (answered s o)
  answered_sound s (Ok after) sound each = let is = each after refl in other_sound l laws after (record after { called = true }) is refl refl
  answered_sound s (Err reason) sound each = other_sound l laws s (record s { called = true }) sound refl refl

  taken_sound : (service : Service) (s after : Session) (read : Result EditorMessage Refusal) → has_ended s.events ≡ false → IsSound l laws s
      → taken l service s read ≡ Ok after → IsSound l laws after
  taken_sound service s after (Ok m) open_ sound e = accepted_sound service s after m open_ sound e
  taken_sound service s after (Err reason) open_ sound e = absurd (cc)

  pub all_legal : (service : Service) (h : List Heard) → IsLegal l service h → IsSound l laws (session l service h)
  all_legal service [] legal = record { legal = tt; agree = laws.begins }
  all_legal service (Message read ∷ h) legal =
      let s = session l service h in
      let sound = all_legal service h legal.0 in
      answered_sound s (taken l service s read) sound (λ after e. taken_sound service s after read legal.1.0 sound e)
  all_legal service (Claimed who part ∷ h) legal =
      still l laws (session l service h) (event.Claimed who part) (all_legal service h legal.0) legal.1.0 (refl, refl)
  all_legal service (Finished who part ∷ h) legal =
      still l laws (session l service h) (event.Finished who part) (all_legal service h legal.0) legal.1.0 (refl, refl)
  all_legal service (Dropped who part ∷ h) legal =
      still l laws (session l service h) (event.Dropped who part) (all_legal service h legal.0) legal.1.0 (refl, refl)
  all_legal service (Ended ∷ h) legal =
      still l laws (session l service h) event.Ended (all_legal service h legal.0) legal.1.0 (refl, refl)
