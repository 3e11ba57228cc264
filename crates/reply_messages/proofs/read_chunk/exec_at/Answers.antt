-- An id is a number.
use Rattle.reply_messages.proofs.ReadTold.{id_told}
use Rattle.reply_messages.proofs.read_chunk.exec_at.Goals as goal

pub returns : goal.returns
returns c = id_told c.args.chunk.now c.in-Some.number c.new.result c.in-Some.ensures c.new.ensures
