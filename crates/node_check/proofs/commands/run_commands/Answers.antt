-- What the commands report is put in order.
use Rattle.std.proofs.Common.{◌≡◌, ◌∙◌, ℕ, ap, arith}
use Rattle.std.specs.List.{sum_by}
use Rattle.std.proofs.lemmas.List.Sorted.{sum_by-IsPermutation}
use Rattle.report_markup.specs.declared.report.Report.{Report}
use Rattle.node_check.specs.Walking.{reports_from}
use Rattle.node_check.proofs.commands.run_commands.Goals as goal

pub returns-clause-reports : goal.returns-clause-reports
returns-clause-reports g c =
    let all = reports_from g.L.Language.lang c.args.text.now c.args.ranges.now c.args.begins in
    let walked : (f : Report → ℕ) → sum_by f c.walk.new.all.items ≡ sum_by f all = λ f.
    let added = c.in_ok-behind.ensures.reports f in
    let none : sum_by f c.new-reports.result.items ≡ 0 = ap (sum_by f) c.new-reports.ensures.items in
    omega arith in
    (c.one_order.ensures.one all).1 c.sort.new.self.items (record {
      same = λ f. sum_by-IsPermutation f _ _ c.in_ok-sort.ensures.permutation ∙ walked f;
      sorted = c.in_ok-sort.ensures.sorted;
    })
