-- The node's commands are those at their places in its text.
use Rattle.std.proofs.Common.{rules, ◌≡◌, [], map, sym, ap, ap₂, ◌∙◌}
use Rattle.std.specs.List.{AllByRecursion}
use Rattle.std.proofs.lemmas.Result.{IfOk-weaker}
use Rattle.report_markup.specs.Sorting.{ordered_reports}
use Rattle.buffer_rules.specs.Nodes.{ranges_in}
use Rattle.core_rules.specs.Scratch.{final, run_node}
use Rattle.node_check.specs.Walking.{reports_from, state_from}
use Rattle.node_check.specs.Nodes.{cut_under, reports_of, sheet_of}
use Rattle.node_check.proofs.KnownCut.{AreCounted, ranges_are}
use Rattle.node_check.proofs.KnownRuns.{behind_so, reported_so}
use Rattle.node_check.proofs.node.check_node.Goals as goal

pub run_commands-requires : goal.run_commands-requires
run_commands-requires g c =
    let node = c.args.node.now in
    let text : c.as_slice-text.result.now ≡ node.text = search rules in
    let ranges : c.deref.result.now ≡ ranges_in (sheet_of node) c.args.aliases.now = search rules in
    rw (text, ranges) c.requires

pub returns-clause-reports : goal.returns-clause-reports
returns-clause-reports g c = λ next.
    let l = g.L.Language.lang in let begins = c.args.begins in
    let node = cut_under c.args.node.now c.args.aliases.now next in
    let counted : AreCounted = λ now next. (c.ids_law.ensures [] now next).counted in
    let text : c.as_slice-text.result.now ≡ node.text = search rules in
    let ranges : c.deref.result.now ≡ ranges_in (sheet_of c.args.node.now) c.args.aliases.now = search rules in
    let places = ranges ∙ sym (ranges_are counted c.args.node.now c.args.aliases.now next) in
    let same = ap₂ (λ t rs. reports_from l t rs begins) text places ∙ sym (reported_so l node node.entries begins) in
    IfOk-weaker c.run_commands.result _
    (λ run. run.reports.items ≡ ordered_reports
    (reports_of l node.entries (run_node l node [] begins).commands))
    (λ run is. is ∙ ap ordered_reports same) c.run_commands.ensures.reports

pub returns-clause-behind : goal.returns-clause-behind
returns-clause-behind g c = λ next.
    let l = g.L.Language.lang in let begins = c.args.begins in
    let node = cut_under c.args.node.now c.args.aliases.now next in
    let counted : AreCounted = λ now next. (c.ids_law.ensures [] now next).counted in
    let text : c.as_slice-text.result.now ≡ node.text = search rules in
    let ranges : c.deref.result.now ≡ ranges_in (sheet_of c.args.node.now) c.args.aliases.now = search rules in
    let places = ranges ∙ sym (ranges_are counted c.args.node.now c.args.aliases.now next) in
    let same = ap₂ (λ t rs. state_from l t rs begins) text places ∙ sym (behind_so l node node.entries begins) in
    IfOk-weaker c.run_commands.result _ (λ run. run.behind ≡ final l (run_node l node [] begins))
    (λ run is. is ∙ same) c.run_commands.ensures.behind
