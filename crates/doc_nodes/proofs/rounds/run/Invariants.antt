use Rattle.std.proofs.Common.{◌≡◌, ◌-◌, length}
use Rattle.doc_nodes.specs.Rounds.{round, after_rounds, in_rounds}
use Rattle.doc_nodes.specs.Looks.{AreMarks, Scanned}
use Rattle.doc_nodes.proofs.rounds.run.Given as goal

abbrev pub invariant-rounds : goal.invariant-rounds
invariant-rounds l = record {
  rest : after_rounds l.rows (length l.rows - l.counter) l.order.items ≡ in_rounds l.rows;
  last : l.last.items ≡ round l.rows l.order.items;
  marks : AreMarks l.marks l.order.items;
  scanned : Scanned l.rows l.marks l.looked;
}
