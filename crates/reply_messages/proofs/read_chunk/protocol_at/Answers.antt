-- By its number.
use Rattle.reply_messages.proofs.ReadTold.{protocol_told}
use Rattle.reply_messages.proofs.read_chunk.protocol_at.Goals as goal

pub returns : goal.returns
returns c = protocol_told c.args.chunk.now _ c.new.result c.in_ok-number_at.ensures c.new.ensures
