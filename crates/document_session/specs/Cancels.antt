-- The replies to a cancellation, written before it is known what it comes to.
use Rattle.std.specs.Prelude.{◌≡◌, ℕ}
use Rattle.core_tables.specs.declared.execs.Cancelling.TheVariants as answer
use Rattle.keeping_rules.specs.session_replies_below.Spelling.{reply_spelling}
use Rattle.keeping_rules.specs.session_replies_below.Cancelled.{cancelling_told}
use Rattle.document_session.specs.declared.changing.CancelReplies.{CancelReplies}

-- they are the replies to each answer
pub record AreRepliesTo (exec : ℕ) (replies : CancelReplies) : Type 0 where
  pub unknown : replies.unknown.items ≡ reply_spelling (cancelling_told exec answer.Unknown)
  pub idle : replies.idle.items ≡ reply_spelling (cancelling_told exec answer.Idle)
  pub cancelled : replies.cancelled.items ≡ reply_spelling (cancelling_told exec answer.Cancelled)
