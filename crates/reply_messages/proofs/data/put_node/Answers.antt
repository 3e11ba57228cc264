-- By its pieces.
use Rattle.std.proofs.Common.{map, string_bytes}
use Rattle.report_markup.proofs.KnownPieces.{last_piece}
use Rattle.xml_codec.specs.Data.{list_body}
use Rattle.reply_messages.specs.Bodies.{row_body}
use Rattle.reply_messages.specs.Lent.{row_of}
use Rattle.reply_messages.proofs.KnownNodes.{end, named_pieces}
use Rattle.reply_messages.proofs.data.put_node.Goals as goal

pub returns : goal.returns
returns c = last_piece c.push_str-7.result _ (string_bytes c.push_str-6.new.self) end _ c.push_str-7.ensures.bytes
    (rw (
      c.in_ok-push_str-6.ensures.bytes,
      c.in_ok-put_rows.ensures,
      c.in_ok-push_str-5.ensures.bytes,
      c.in_ok-push_str-4.ensures.bytes,
      c.in_ok-push_str-3.ensures.bytes,
      c.as_str.ensures.value,
      c.in_ok-push_str-2.ensures.bytes,
      c.in_ok-push_str.ensures.bytes,
    ) (named_pieces (string_bytes c.args.out.now) c.args.node.now.node.now (list_body (map row_body (map row_of c.args.node.now.rows.now)))))
