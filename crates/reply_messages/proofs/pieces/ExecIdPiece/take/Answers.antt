-- An id in a node.
use Rattle.std.proofs.Common.{decimal}
use Rattle.pide_base.specs.Ids.{IsId}
use Rattle.reply_messages.specs.Marks.{node_bytes}
use Rattle.reply_messages.proofs.Alike.{if_ok, same_front}
use Rattle.reply_messages.proofs.ReadNumbers.{ids_are_words}
use Rattle.reply_messages.proofs.Spelled.{id_bytes, id_is}
use Rattle.reply_messages.proofs.pieces.ExecIdPiece.take.Goals as goal

pub take_word-requires : goal.take_word-requires
take_word-requires c = record { words = ids_are_words }

pub returns : goal.returns
returns c = if_ok _ _ c.take_word.result (same_front (λ n. node_bytes (decimal n)) id_bytes IsId id_is c.args.text.now) c.take_word.ensures
