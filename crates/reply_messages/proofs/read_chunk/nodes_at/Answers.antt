-- Elements, one after the other.
use Rattle.std.specs.List.{AllByRecursion, flat_map}
use Rattle.reply_messages.specs.Fits.{FitsNode}
use Rattle.reply_messages.specs.Replies.{nodes_chunk}
use Rattle.reply_messages.proofs.Alike.{if_ok, found_alike}
use Rattle.reply_messages.proofs.OneChunk.{nodes_are}
use Rattle.reply_messages.proofs.Spelled.{rows_bytes, nodes_with_rows_are_elements}
use Rattle.reply_messages.proofs.read_chunk.nodes_at.Goals as goal

pub all_of-requires : goal.all_of-requires
all_of-requires c = record { elements = nodes_with_rows_are_elements }

pub returns : goal.returns
returns c = if_ok _ _ c.all_of.result (found_alike (flat_map rows_bytes) nodes_chunk (AllByRecursion FitsNode) nodes_are c.args.chunk.now) c.all_of.ensures
