-- By its pieces.
use Rattle.std.proofs.Common.{string_bytes}
use Rattle.report_markup.proofs.KnownPieces.{last_piece}
use Rattle.reply_messages.proofs.KnownNodes.{end, numbered_pieces}
use Rattle.reply_messages.proofs.data.put_numbered.Goals as goal

pub returns : goal.returns
returns c = last_piece c.push_str-2.result _ (string_bytes c.put_number.new.out) end _ c.push_str-2.ensures.bytes
    (rw (c.in_ok-put_number.ensures, c.in_ok-push_str.ensures.bytes) (numbered_pieces (string_bytes c.args.out.now) c.args.number))
