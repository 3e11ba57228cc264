-- What is told of messages can be read.
use Rattle.std.proofs.Common.{◌≡◌, ℕ, Bool, true, false, List, [], ◌∷◌, map, Result, Ok, Err, refl}
use Rattle.std.specs.Prelude.{if◌then◌else◌, ◌&&◌, not}
use Rattle.std.specs.List.{AllByRecursion}
use Rattle.text_words.specs.Members.{has}
use Rattle.text_words.proofs.KnownLists.{each-passing}
use Rattle.pide_base.specs.Ids.{IsId}
use Rattle.core_tables.specs.declared.versions.Live.{Live}
use Rattle.exec_rules.specs.declared.version.Version.{Version}
use Rattle.language.specs.Lang.{Lang}
use Rattle.message_values.specs.declared.editor_message.EditorMessage.{EditorMessage}
use Rattle.message_values.specs.declared.editor_message.EditorMessage.TheVariants as asks
use Rattle.message_values.specs.declared.refusal.Refusal.{Refusal}
use Rattle.buffer_rules.specs.Trying.{◌>>=◌}
use Rattle.core_rules.specs.Standing.{is_open}
use Rattle.core_rules.specs.Stuck.{stuck_in}
use Rattle.reply_messages.specs.FoundReplies.{IsReply}
use Rattle.reply_messages.specs.declared.told.Told.TheVariants as tells
use Rattle.session_rules.specs.declared.service.Service.{Service}
use Rattle.session_rules.specs.Heard.{Heard, Message}
use Rattle.session_rules.specs.Session.{Session, document}
use Rattle.session_rules.specs.Accepting.{accepted}
use Rattle.session_rules.specs.History.{session}
use Rattle.session_rules.specs.Legal.{IsLegal}
use Rattle.session_rules.specs.Looking.{Looked, looked_at, settles}
use Rattle.session_rules.specs.Replies.{cancelling, markup, or_refusal, message_replies}
use Rattle.editor_laws.proofs.FineDocs.{FineDoc, FineLive}
use Rattle.editor_laws.proofs.LookReplies.{numbers_fit, numbers_rise, shown_told}
use Rattle.editor_laws.proofs.ReadCalls.{IsSound}
use Rattle.editor_laws.proofs.RisingLists.{rises_map, rising_filter}
use Rattle.editor_laws.proofs.HistoryLaws.{HistoryLaws, Readable, fine_after}
use Rattle.editor_laws.proofs.UpdateReplies.{update_readable}

module _ {S : Type 0} (l : Lang S) (laws : HistoryLaws l) (service : Service) where
  cancel_readable : (s : Session) (exec : ℕ) → IsId exec → IsReply (cancelling l s exec)
  cancel_readable s exec id = go (is_open l s.events (document l s).homes exec && not
      (has (document l s).cancelled exec))
    where
      go : (b : Bool) → IsReply (if b then tells.Cancelled exec else tells.Idle exec)
      go true = record { fits = id; form = tt }
      go false = record { fits = id; form = tt }

  live_ids : (lives : List (Live Version)) → AllByRecursion FineLive lives
      → AllByRecursion IsId (map (λ (one : Live Version). one.id) lives)
  live_ids [] all = tt
  live_ids (one ∷ lives) all = (all.0.0, live_ids lives all.1)

  -- any message that isn't refused
  pub message_readable : (h : List Heard) (m : EditorMessage) (after : Session)
      → AllByRecursion IsSound (Message (Ok m) ∷ h)
      → IsLegal l service (Message (Ok m) ∷ h) → accepted l service (session l service h) m
      ≡ Ok after
      → Readable (or_refusal (message_replies l service (session l service h) after m))
  message_readable h (asks.Update version items blobs) after sound legal e =
      (update_readable l laws service h version items blobs after sound legal e, tt)
  message_readable h (asks.Snapshot version node edits) after sound legal e =
      go (looked_at l (session l service h) version node edits) refl
    where
      s : Session
      s = session l service h

      fine : FineDoc (document l s)
      fine = fine_after l laws service h legal.0 sound.1

      go : (r : Result Looked Refusal) → looked_at l s version node edits ≡ r
          → Readable (or_refusal (r >>= λ looked. Ok (markup l s version node edits looked ∷ [])))
      go (Err reason) is = (record { fits = tt; form = tt }, tt)
      go (Ok looked) is = (
        record {
          fits = (
            sound.0.0.0,
            sound.0.0.1,
            shown_told l laws.reports laws.within s version node edits looked fine sound.0.1 is,
            numbers_fit (document l s) fine _,
          );
          form = numbers_rise (document l s) _;
        },
        tt,
      )
  message_readable h (asks.Cancel exec) after sound legal e =
      (cancel_readable (session l service h) exec sound.0.0, tt)
  message_readable h (asks.RemoveVersions versions) after sound legal e = (
    record {
      fits = each-passing IsId (has versions) _ (live_ids (document l (session l service h)).live
          (fine_after l laws service h legal.0 sound.1).live);
      form = rising_filter (has versions) 0 _ (rises_map (λ (one : Live Version). one.id) 0
          (document l (session l service h)).live (fine_after l laws service h legal.0
          sound.1).rising);
    },
    tt,
  )
  message_readable h (asks.Settle id) after sound legal e =
      go (settles l service (session l service h) id)
    where
      s : Session
      s = session l service h

      go : (r : Result Version Refusal) → Readable (or_refusal
          (r >>= λ version. Ok (tells.Settled id (stuck_in l s.events (document l s) version)
          ∷ [])))
      go (Err reason) = (record { fits = tt; form = tt }, tt)
      go (Ok version) = (
        record {
          fits = (
            sound.0.0,
            numbers_fit (document l s) (fine_after l laws service h legal.0
                sound.1) _,
          );
          form = numbers_rise (document l s) _;
        },
        tt,
      )
  message_readable h (asks.Protocol protocol) after sound legal e =
      (record { fits = tt; form = tt }, tt)
  message_readable h (asks.Claim w) after sound legal e = tt
  message_readable h (asks.Finish w) after sound legal e = tt
  message_readable h (asks.Theory node text) after sound legal e = tt
