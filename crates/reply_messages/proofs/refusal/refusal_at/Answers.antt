-- By its number.
use Rattle.message_values.specs.Refusals.{refusal_number}
use Rattle.reply_messages.specs.Fits.{IsAny}
use Rattle.reply_messages.proofs.Refusals.{refusal_is_wide}
use Rattle.reply_messages.proofs.ReadTold.{number_told}
use Rattle.reply_messages.proofs.refusal.refusal_at.Goals as goal

pub returns : goal.returns
returns c = number_told refusal_number IsAny (λ reason any. refusal_is_wide reason) c.args.chunk.now _ c.refusal_of.result c.in_ok-number_at.ensures c.refusal_of.ensures
