use Rattle.std.proofs.Common.{◌≡◌, ◌++◌, take, drop, length}
use Rattle.command_spans.specs.Keeping.{restaged}
use Rattle.command_spans.proofs.edited.rename.Given as goal

abbrev pub invariant-loop-i : goal.invariant-loop-i
invariant-loop-i l = record {
  size : length l.tokens.items ≡ length l.initial.tokens.items;
  rest : take l.i l.tokens.items ++ restaged l.aliases l.text l.stage (drop l.i l.tokens.items) ≡ take l.from l.initial.tokens.items ++ restaged l.aliases l.text l.initial.stage (drop l.from l.initial.tokens.items);
}
