use Rattle.std.proofs.Common.{◌≡◌, ◌++◌, drop, map}
use Rattle.reply_messages.specs.Lent.{rows_of}
use Rattle.session_replies.specs.Assigned.{node_of}
use Rattle.session_replies.proofs.assigned.lent.Given as goal

abbrev pub invariant-nodes : goal.invariant-nodes
invariant-nodes l = map rows_of l.all.items ++ map node_of (drop l.lent-index l.nodes) ≡ map node_of l.nodes
