-- What is written, and what is left, make up the list.
use Rattle.std.proofs.Common.{◌≡◌, ◌++◌, string_bytes, drop, map}
use Rattle.xml_codec.specs.Data.{list_body}
use Rattle.yxml.specs.Spelling.{yxml}
use Rattle.reply_messages.specs.Bodies.{row_body}
use Rattle.reply_messages.specs.Lent.{row_of}
use Rattle.reply_messages.proofs.data.put_rows.Given as goal

abbrev pub invariant-rows : goal.invariant-rows
invariant-rows l = string_bytes l.out ++ yxml (list_body (map row_body (map row_of (drop l.row-index l.rows))))
    ≡ string_bytes l.initial.out ++ yxml (list_body (map row_body (map row_of l.rows)))
