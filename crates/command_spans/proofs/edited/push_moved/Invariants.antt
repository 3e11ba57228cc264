use Rattle.std.proofs.Common.{◌≡◌, ◌++◌, take, map}
use Rattle.command_spans.specs.Keeping.{moved_token}
use Rattle.command_spans.proofs.edited.push_moved.Given as goal

abbrev pub invariant-loop-token : goal.invariant-loop-token
invariant-loop-token l = l.tokens.items ≡ l.initial.tokens.items ++ map (moved_token l.change.old_end l.change.new_end) (take l.token-index l.kept)
