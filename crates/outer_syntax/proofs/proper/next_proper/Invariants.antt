use Rattle.std.proofs.Common.{◌≡◌, ◌-◌, ◌≤◌, length}
use Rattle.outer_syntax.specs.Words.{is_in_force}
use Rattle.outer_syntax.specs.ProperTokens.{proper_from}
use Rattle.outer_syntax.proofs.proper.next_proper.Given as goal

abbrev pub invariant-loop-token : goal.invariant-loop-token
invariant-loop-token l = (l.place ≤ length l.text) × (proper_from (is_in_force l.names) l.text l.fn.place ≡ proper_from (is_in_force l.names) l.text l.place)

abbrev pub decreases-loop-token : goal.decreases-loop-token
decreases-loop-token l = length l.text - l.place
