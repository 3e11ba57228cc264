-- By its number.
use Rattle.reply_messages.proofs.ReadTold.{worker_told}
use Rattle.reply_messages.proofs.read_chunk.worker_at.Goals as goal

pub returns : goal.returns
returns c = worker_told c.args.chunk.now _ c.new.result c.in_ok-number_at.ensures c.new.ensures
