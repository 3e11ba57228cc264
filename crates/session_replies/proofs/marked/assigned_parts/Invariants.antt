use Rattle.std.proofs.Common.{◌≡◌, ◌++◌, drop, map}
use Rattle.session_replies.specs.Marked.{assigned_part}
use Rattle.session_replies.proofs.marked.assigned_parts.Given as goal

abbrev pub invariant-parts : goal.invariant-parts
invariant-parts l = l.all ++ map assigned_part (drop l.part-index l.parts) ≡ map assigned_part l.parts
