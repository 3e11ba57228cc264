-- By the kind of the reply.
use Rattle.reply_messages.proofs.OneReply.{one_reply, read_back}
use Rattle.reply_messages.proofs.laws.what_is_written_is_read_back.Goals as goal

pub returns : goal.returns
returns c = record { one = one_reply; back = read_back; again = λ chunks told h. h.1 }
