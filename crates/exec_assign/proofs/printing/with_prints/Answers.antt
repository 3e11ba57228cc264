use Rattle.std.proofs.Common.{◌<◌, ◌+◌, ◌++◌, length, drop, ap, sym, ◌∙◌, arith, rules, append-nil}
use Rattle.exec_rules.specs.Rows.{with_prints, behind_prints}
use Rattle.exec_assign.proofs.RowLemmas.{with_next, behind_next, behind_first, behind_over_next}
use Rattle.exec_assign.proofs.RowSteps.{with_over, behind_over}
use Rattle.exec_assign.proofs.printing.with_prints.Goals as goal

pub returns-in_err-print-clause-limit : goal.returns-in_err-print-clause-limit
returns-in_err-print-clause-limit c = λ is.
    let within : c.rows.place < length c.args.entries.now = omega (arith, c.rows-test.true, c.requires.long) in
    behind_over_next c.args.entries.now c.args.evaluations.now c.args.live.now c.rows.place c.rows.number _ _ c.index-entries-place.result c.live_at-kept.result
    within c.rows-test.true c.index-entries-place.is c.live_at-kept.ensures c.rows.invariant.next_is (c.in_err-print.ensures.limit (search rules))

pub rows-preserved : goal.rows-preserved
rows-preserved c =
    let es = c.args.entries.now in
    let vs = c.args.evaluations.now in
    let live = c.args.live.now in
    let i = c.rows.place in
    let number = c.behind-number.ensures in
    let within : i < length es = omega (arith, c.rows-test.true, c.requires.long) in
    record {
      rows_are = ap (λ n. c.add_row.new.rows ++ with_prints (drop (i + 1) es) (drop (i + 1) vs) (drop (i + 1) live) n) number
          ∙ with_next es vs live i c.rows.number c.index-entries-place.result c.index-evaluations-place.result c.live_at-kept.result c.in_ok-print.print
          c.rows.rows c.add_row.new.rows _ within c.rows-test.true c.index-entries-place.is c.index-evaluations-place.is c.live_at-kept.ensures
          c.in_ok-print.ensures.ok c.in_ok-add_row.ensures c.rows.invariant.rows_are;
      next_is = ap (λ n. behind_prints (drop (i + 1) es) (drop (i + 1) vs) (drop (i + 1) live) n) number
          ∙ behind_next es vs live i c.rows.number c.index-entries-place.result c.live_at-kept.result within c.rows-test.true c.index-entries-place.is c.live_at-kept.ensures
          ∙ c.rows.invariant.next_is;
      first = omega (arith, number, behind_first c.index-entries-place.result c.live_at-kept.result c.rows.number, c.rows.invariant.first);
      within = omega (arith, number, c.in_ok-print.ensures.within);
    }

pub returns-clause-rows : goal.returns-clause-rows
returns-clause-rows c =
    sym (append-nil c.rows.rows)
    ∙ ap (λ rest. c.rows.rows ++ rest)
    (sym (with_over (drop c.rows.place c.args.entries.now) c.args.evaluations.now (drop c.rows.place c.args.live.now) c.rows.place c.rows.number c.rows-test.false))
    ∙ c.rows.invariant.rows_are

pub returns-clause-next : goal.returns-clause-next
returns-clause-next c =
    sym (behind_over (drop c.rows.place c.args.entries.now) c.args.evaluations.now (drop c.rows.place c.args.live.now) c.rows.place c.rows.number c.rows-test.false)
    ∙ c.rows.invariant.next_is
