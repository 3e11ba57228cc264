use Rattle.std.proofs.Common.{◌≤◌, length}
use Rattle.std.specs.List.{flat_map}
use Rattle.pide_build.proofs.Written.{IsWritten}
use Rattle.pide_build.proofs.replies.push_nodes.Given as goal

-- the replies of the nodes that are left come behind
abbrev pub invariant-nodes : goal.invariant-nodes
invariant-nodes g l =
    IsWritten (g.K.Sink.contents l.fn.sink) (g.K.Sink.contents l.sink) (flat_map (λ reply. reply.bytes) l.rest)
    (flat_map (λ reply. reply.bytes) l.all)
    × (g.K.Sink.faults l.fn.sink ≤ g.K.Sink.faults l.sink)

abbrev pub decreases-nodes : goal.decreases-nodes
decreases-nodes g l = length l.rest
