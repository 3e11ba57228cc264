-- By its pieces.
use Rattle.std.proofs.Common.{map, string_bytes}
use Rattle.report_markup.proofs.KnownPieces.{last_piece}
use Rattle.xml_codec.specs.Data.{list_body}
use Rattle.message_values.specs.ShapeBodies.{number_body}
use Rattle.reply_messages.specs.Lent.{executions_of}
use Rattle.reply_messages.proofs.KnownNodes.{end, row_pieces}
use Rattle.reply_messages.proofs.data.put_row.Goals as goal

pub returns : goal.returns
returns c = last_piece c.push_str-4.result _ (string_bytes c.push_str-3.new.self) end _ c.push_str-4.ensures.bytes
    (rw (
      c.in_ok-push_str-3.ensures.bytes,
      c.in_ok-put_executions.ensures,
      c.in_ok-push_str-2.ensures.bytes,
      c.in_ok-put_numbered.ensures,
      c.number.ensures.value,
      c.in_ok-push_str.ensures.bytes,
    ) (row_pieces (string_bytes c.args.out.now) (number_body c.args.row.now.command) (list_body (map number_body (executions_of c.args.row.now.executions)))))
