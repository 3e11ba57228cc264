use Rattle.std.proofs.Common.{◌+◌, ◌-◌, ◌<◌, length, ap, ◌∙◌, arith, rules}
use Rattle.pide_base.specs.Ids.{id_end}
use Rattle.exec_rules.specs.Rows.{evaluations, live_prints}
use Rattle.exec_rules.specs.Assigning.{rows_in}
use Rattle.exec_assign.proofs.RowSteps.{behind_rises}
use Rattle.exec_assign.proofs.update.Update.given_by.Goals as goal

pub returns-in_err-made-clause-limit : goal.returns-in_err-made-clause-limit
returns-in_err-made-clause-limit g c = λ is.
    let rows = rows_in c.args.self.now.tip c.args.name.now in
    let over : id_end < c.args.next + (c.args.count - c.args.kept) = c.in_err-made.ensures.limit (search rules) in
    omega (
      arith,
      over,
      behind_rises c.args.node.now.entries (evaluations rows c.args.kept c.args.count c.args.next) (live_prints c.args.self.now.cancelled rows c.args.kept)
          (c.args.next + (c.args.count - c.args.kept)),
    )

pub with_prints-requires-clause-long : goal.with_prints-requires-clause-long
with_prints-requires-clause-long g c =
    omega (
      arith,
      c.requires.count,
      c.in_ok-made.ensures.long,
      ap length (c.as_slice-entries.ensures ∙ c.get.ensures),
      ap length c.as_slice.ensures,
    )

pub homes-homes-requires : goal.homes-homes-requires
homes-homes-requires g c = omega (arith, c.requires.count, c.in_ok-made.ensures.long, ap length c.as_slice-2.ensures)
