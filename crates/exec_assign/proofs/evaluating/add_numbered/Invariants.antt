use Rattle.std.proofs.Common.{◌≡◌, ◌≤◌, ◌+◌, ◌++◌}
use Rattle.std.specs.List.{range_with_len}
use Rattle.pide_base.specs.Ids.{id_end}
use Rattle.exec_assign.proofs.evaluating.add_numbered.Given as goal

abbrev pub invariant-numbers : goal.invariant-numbers
invariant-numbers l = record {
  added : l.all ≡ l.fn.all ++ range_with_len l.next l.counter;
  number_is : l.number ≡ l.next + l.counter;
  within : l.number ≤ id_end;
}
