use Rattle.std.proofs.Common.{◌≡◌, ◌≤◌, ◌++◌, drop}
use Rattle.pide_base.specs.Ids.{id_end}
use Rattle.exec_rules.specs.Rows.{with_prints, behind_prints}
use Rattle.exec_assign.proofs.printing.with_prints.Given as goal

abbrev pub invariant-rows : goal.invariant-rows
invariant-rows l = record {
  rows_are : l.rows ++ with_prints (drop l.place l.entries) (drop l.place l.evaluations) (drop l.place l.live) l.number
      ≡ with_prints l.entries l.evaluations l.live l.next;
  next_is : behind_prints (drop l.place l.entries) (drop l.place l.evaluations) (drop l.place l.live) l.number
      ≡ behind_prints l.entries l.evaluations l.live l.next;
  first : 1 ≤ l.number;
  within : l.number ≤ id_end;
}
