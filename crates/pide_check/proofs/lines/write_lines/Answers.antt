-- All lines are on their way until they are pushed.
use Rattle.std.proofs.Common.{List, ℕ, drop, string_bytes, subst}
use Rattle.std.specs.List.{flat_map}
use Rattle.pide_base.specs.Moves.{AppendsFront}
use Rattle.text_check.specs.Lines.{report_line}
use Rattle.pide_check.specs.Writing.{AreOnTheirWay}
use Rattle.pide_check.proofs.FirstLine.{first_line}
use Rattle.pide_check.proofs.Pushing.{pushed_front}
use Rattle.pide_check.proofs.lines.write_lines.Goals as goal

pub returns-in_err-add_line-clause-front : goal.returns-in_err-add_line-clause-front
returns-in_err-add_line-clause-front g c =
    let first = g.K.Sink.contents c.args.sink.now in
    let all = flat_map report_line c.args.reports.now in
    c.in_err-add_line.ensures.front first (flat_map report_line (drop 1 c.reports.rest.now)) all
    (subst (λ (rest : List ℕ). AreOnTheirWay first (g.K.Sink.contents c.reports.sink) (string_bytes c.reports.text) rest all)
    (first_line c.reports.rest.now c.report-item.result c.in-len1-up.len_at_least c.report-item.is) c.reports.invariant.0)

pub returns-then-not-branch-clause-front : goal.returns-then-not-branch-clause-front
returns-then-not-branch-clause-front g c =
    let first = g.K.Sink.contents c.args.sink.now in
    let all = flat_map report_line c.args.reports.now in
    c.add_line.ensures.front first (flat_map report_line (drop 1 c.reports.rest.now)) all
    (subst (λ (rest : List ℕ). AreOnTheirWay first (g.K.Sink.contents c.reports.sink) (string_bytes c.reports.text) rest all)
    (first_line c.reports.rest.now c.report-item.result c.in-len1-up.len_at_least c.report-item.is) c.reports.invariant.0)

pub returns-clause-front : goal.returns-clause-front
returns-clause-front g c =
    let first = g.K.Sink.contents c.args.sink.now in
    let held = g.K.Sink.contents c.reports.sink in
    let held' = g.K.Sink.contents c.push_whole.new.sink in
    pushed_front first held held' (string_bytes c.reports.text) (flat_map report_line c.reports.rest.now) (flat_map report_line c.args.reports.now)
    c.reports.invariant.0 (subst (AppendsFront held held') c.as_bytes.ensures.value c.push_whole.ensures.failed)
