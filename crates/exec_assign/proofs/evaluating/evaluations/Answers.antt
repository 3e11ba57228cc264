use Rattle.std.proofs.Common.{◌-◌, length, take, ap, arith}
use Rattle.std.proofs.lemmas.List.{length-append, length-map, length-take-le}
use Rattle.std.proofs.lemmas.List.FromFn.{length-range_with_len}
use Rattle.std.specs.List.{range_with_len}
use Rattle.exec_rules.specs.declared.row.Row.{Row}
use Rattle.exec_assign.proofs.evaluating.evaluations.Goals as goal

pub returns-clause-long : goal.returns-clause-long
returns-clause-long c =
    let fresh = c.args.count - c.args.kept in
    omega (
      arith,
      ap length c.in_ok-add_numbered.ensures.ok,
      length-append c.in_ok-all.all (range_with_len c.args.next fresh),
      ap length c.in_ok-all.ensures,
      length-map (take c.args.kept c.args.old.now) (λ (row : Row). row.evaluation),
      length-take-le c.args.kept c.args.old.now c.requires.kept,
      length-range_with_len c.args.next fresh,
      c.requires.count,
    )
