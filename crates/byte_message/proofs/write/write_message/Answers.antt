-- The bytes of a message are few.
use Rattle.std.proofs.Common.{arith}
use Rattle.byte_message.proofs.Written.{message_length}
use Rattle.byte_message.proofs.write.write_message.Goals as goal

pub body_length-requires : goal.body_length-requires
body_length-requires c = let n = message_length c.args.chunks.now c.requires in omega arith

pub overflow_add-body_length : goal.overflow_add-body_length
overflow_add-body_length c = let n = message_length c.args.chunks.now c.requires in omega (arith, c.body_length.ensures)
