-- No reply of these is a snapshot's, so each of its long chunks counts.
use Rattle.std.proofs.Common.{◌≡◌, ℕ, Bool, true, false, List, [], ◌∷◌, Result, Ok, Err, refl}
use Rattle.std.specs.Prelude.{if◌then◌else◌, not, ◌&&◌}
use Rattle.std.specs.List.{AllByRecursion}
use Rattle.text_words.specs.Members.{has}
use Rattle.byte_message.specs.Long.{long_lengths}
use Rattle.pide_base.specs.declared.part.Part.{Part}
use Rattle.core_rules.specs.Standing.{is_open}
use Rattle.exec_rules.specs.declared.version.Version.{Version}
use Rattle.language.specs.Lang.{Lang}
use Rattle.message_values.specs.declared.editor_message.EditorMessage.{EditorMessage}
use Rattle.message_values.specs.declared.editor_message.EditorMessage.TheVariants as asks
use Rattle.message_values.specs.declared.refusal.Refusal.{Refusal}
use Rattle.buffer_rules.specs.Trying.{◌>>=◌}
use Rattle.reply_messages.specs.declared.told.Told.{Told}
use Rattle.reply_messages.specs.declared.told.Told.TheVariants as tells
use Rattle.reply_messages.specs.Replies.{reply_chunks}
use Rattle.session_rules.specs.declared.service.Service.{Service}
use Rattle.session_rules.specs.Accepting.{accepted}
use Rattle.session_rules.specs.Heard.{Heard, Message, Claimed, Finished, Dropped, Ended}
use Rattle.session_rules.specs.History.{session}
use Rattle.session_rules.specs.Looking.{settles}
use Rattle.session_rules.specs.Replies.{cancelling, claim_told, entry_replies, message_replies, or_refusal, told_to}
use Rattle.session_rules.specs.Session.{Session, document}
use Rattle.session_rules.specs.Steps.{Due, Nothing, Claims, Finishes, due}
use Rattle.mirror_serve.specs.LongReplies.{too_long}
use Rattle.mirror_serve.specs.Looks.{IsNoLook}

-- no snapshot's reply
abbrev pub IsPlain : Told → Type 0
IsPlain told = too_long told ≡ long_lengths (reply_chunks told)

module _ {S : Type 0} (l : Lang S) (service : Service) where
  cancelling_plain : (s : Session) (exec : ℕ) → IsPlain (cancelling l s exec)
  cancelling_plain s exec = by (is_open l s.events (document l s).homes exec && not (has (document l s).cancelled exec))
    where
      by : (b : Bool) → IsPlain (if b then tells.Cancelled exec else tells.Idle exec)
      by true = refl
      by false = refl

  taken_plain : (s after : Session) (m : EditorMessage) → IsNoLook (Ok m) → AllByRecursion IsPlain (or_refusal (message_replies l service s after m))
  taken_plain s after (asks.Update version items blobs) other = (refl, tt)
  taken_plain s after (asks.Snapshot version node edits) other = absurd (other version node edits refl)
  taken_plain s after (asks.Cancel exec) other = (cancelling_plain s exec, tt)
  taken_plain s after (asks.RemoveVersions versions) other = (refl, tt)
  taken_plain s after (asks.Settle id) other = by (settles l service s id) _
    where
      by : (r : Result Version Refusal) (stuck : Version → List ℕ) → AllByRecursion IsPlain (or_refusal (r >>= λ version. Ok (tells.Settled id (stuck version) ∷ [])))
      by (Ok version) stuck = (refl, tt)
      by (Err reason) stuck = (refl, tt)
  taken_plain s after (asks.Protocol protocol) other = (refl, tt)
  taken_plain s after (asks.Claim w) other = tt
  taken_plain s after (asks.Finish w) other = tt
  taken_plain s after (asks.Theory node text) other = tt

  told_plain : (s : Session) (read : Result EditorMessage Refusal) → IsNoLook read → AllByRecursion IsPlain (told_to l service s read)
  told_plain s (Err reason) other = (refl, tt)
  told_plain s (Ok m) other = by (accepted l service s m)
    where
      by : (r : Result Session Refusal) → AllByRecursion IsPlain (or_refusal (r >>= λ after. message_replies l service s after m))
      by (Ok after) = taken_plain s after m other
      by (Err reason) = (refl, tt)

  claim_plain : (part : Part) (d : Due) → AllByRecursion IsPlain (claim_told part d)
  claim_plain part Nothing = tt
  claim_plain part (Claims w) = (refl, tt)
  claim_plain part (Finishes w) = tt

  -- no reply of these is a snapshot's
  abbrev pub IsOther : Heard → Type 0
  IsOther (Message read) = IsNoLook read
  IsOther e = Unit {0}

  pub entry_plain : (h : List Heard) (e : Heard) → IsOther e → AllByRecursion IsPlain (entry_replies l service h e)
  entry_plain h (Message read) other = told_plain (session l service h) read other
  entry_plain h (Claimed who part) other = claim_plain part (due l service h)
  entry_plain h (Finished who part) other = (refl, tt)
  entry_plain h (Dropped who part) other = (refl, tt)
  entry_plain h Ended other = tt
