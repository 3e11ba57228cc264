-- Each entry is told by one reply at most.
use Rattle.std.proofs.Common.{◌≤◌, List, [], ◌∷◌, length, Result, Ok, Err, arith}
use Rattle.exec_rules.specs.declared.version.Version.{Version}
use Rattle.language.specs.Lang.{Lang}
use Rattle.message_values.specs.declared.editor_message.EditorMessage.{EditorMessage}
use Rattle.message_values.specs.declared.editor_message.EditorMessage.TheVariants as asks
use Rattle.message_values.specs.declared.refusal.Refusal.{Refusal}
use Rattle.buffer_rules.specs.Trying.{◌>>=◌}
use Rattle.reply_messages.specs.declared.told.Told.{Told}
use Rattle.session_rules.specs.declared.service.Service.{Service}
use Rattle.session_rules.specs.Accepting.{accepted}
use Rattle.session_rules.specs.Heard.{Heard, Message, Claimed, Finished, Dropped, Ended}
use Rattle.session_rules.specs.History.{session}
use Rattle.session_rules.specs.Looking.{Looked, looked_at, settles}
use Rattle.session_rules.specs.Replies.{claim_told, or_refusal, entry_replies, message_replies}
use Rattle.session_rules.specs.Session.{Session}
use Rattle.session_rules.specs.Steps.{Due, Nothing, Claims, Finishes, due}

-- nothing, or one reply
abbrev pub AtMostOne : List Told → Type 0
AtMostOne ts = length ts ≤ 1

module _ {S : Type 0} (l : Lang S) (service : Service) where
  accepted_one : (s after : Session) (msg : EditorMessage)
      → AtMostOne (or_refusal (message_replies l service s after msg))
  accepted_one s after (asks.Update version items blobs) = omega arith
  accepted_one s after (asks.Snapshot version node edits) = go (looked_at l s version node edits) _
    where
      go : (o : Result Looked Refusal) (f : Looked → Told) → AtMostOne (or_refusal (o >>= λ looked. Ok (f looked ∷ [])))
      go (Ok looked) f = omega arith
      go (Err reason) f = omega arith
  accepted_one s after (asks.Cancel exec) = omega arith
  accepted_one s after (asks.RemoveVersions versions) = omega arith
  accepted_one s after (asks.Settle id) = go (settles l service s id) _
    where
      go : (o : Result Version Refusal) (f : Version → Told) → AtMostOne (or_refusal (o >>= λ version. Ok (f version ∷ [])))
      go (Ok version) f = omega arith
      go (Err reason) f = omega arith
  accepted_one s after (asks.Protocol protocol) = omega arith
  accepted_one s after (asks.Claim w) = omega arith
  accepted_one s after (asks.Finish w) = omega arith
  accepted_one s after (asks.Theory node text) = omega arith

  -- so of each entry
  pub one_told : (h : List Heard) (e : Heard) → AtMostOne (entry_replies l service h e)
  one_told h (Message (Err reason)) = omega arith
  one_told h (Message (Ok msg)) = go (accepted l service (session l service h) msg)
    where
      go : (r : Result Session Refusal) → AtMostOne (or_refusal (r >>= λ after. message_replies l service (session l service h) after msg))
      go (Ok after) = accepted_one (session l service h) after msg
      go (Err reason) = omega arith
  one_told h (Claimed who part) = go (due l service h)
    where
      go : (d : Due) → AtMostOne (claim_told part d)
      go Nothing = omega arith
      go (Claims w) = omega arith
      go (Finishes w) = omega arith
  one_told h (Finished who part) = omega arith
  one_told h (Dropped who part) = omega arith
  one_told h Ended = omega arith
