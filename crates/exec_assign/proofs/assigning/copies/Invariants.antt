use Rattle.std.proofs.Common.{◌≡◌, ℕ, vec_len, slice_index_or}
use Rattle.exec_rules.specs.Keys.{nothing_assigned}
use Rattle.exec_assign.proofs.assigning.copies.Given as goal

abbrev pub invariant-owners : goal.invariant-owners
invariant-owners l = record {
  len : vec_len l.all ≡ l.counter;
  none : (p : ℕ) → slice_index_or l.all.items p nothing_assigned ≡ nothing_assigned;
}
