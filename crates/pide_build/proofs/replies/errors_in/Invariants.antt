use Rattle.std.proofs.Common.{◌≡◌, ◌+◌, length, sum_by}
use Rattle.pide_build.proofs.replies.errors_in.Given as goal

abbrev pub invariant-nodes : goal.invariant-nodes
invariant-nodes l = l.count + sum_by (λ reply. reply.errors) l.rest ≡ sum_by (λ reply. reply.errors) l.all

abbrev pub decreases-nodes : goal.decreases-nodes
decreases-nodes l = length l.rest
