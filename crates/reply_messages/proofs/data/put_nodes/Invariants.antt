-- What is written, and what is left, make up the list.
use Rattle.std.proofs.Common.{◌≡◌, ◌++◌, string_bytes, drop, map}
use Rattle.xml_codec.specs.Data.{list_body}
use Rattle.yxml.specs.Spelling.{yxml}
use Rattle.reply_messages.specs.Bodies.{node_body}
use Rattle.reply_messages.specs.Lent.{rows_of}
use Rattle.reply_messages.proofs.data.put_nodes.Given as goal

abbrev pub invariant-nodes : goal.invariant-nodes
invariant-nodes l = string_bytes l.out ++ yxml (list_body (map node_body (map rows_of (drop l.node-index l.nodes))))
    ≡ string_bytes l.initial.out ++ yxml (list_body (map node_body (map rows_of l.nodes)))
