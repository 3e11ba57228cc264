use Rattle.std.proofs.Common.{length}
use Rattle.reply_messages.proofs.message.+put_lengths.Given as goal

abbrev pub decreases-put_lengths : goal.decreases-put_lengths
decreases-put_lengths l = length l.lengths.now
