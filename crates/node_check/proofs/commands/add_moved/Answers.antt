-- A report that lies in the source is moved to its place.
use Rattle.std.proofs.Common.{◌≡◌, ◌∷◌, [], ◌++◌, ◌∙◌, subst}
use Rattle.std.specs.List.{AllByRecursion}
use Rattle.text_words.proofs.KnownLists.{each-part}
use Rattle.report_markup.specs.declared.report.Report.{Report}
use Rattle.language.specs.Laws.{LiesIn as ReportLiesIn}
use Rattle.node_check.proofs.Added.{moved_on}
use Rattle.node_check.proofs.commands.add_moved.Goals as goal

pub reports-preserved : goal.reports-preserved
reports-preserved c =
    let report : Report = c.in-Some.report in
    let split : c.reports.reports ≡ c.pop.new.self ++ report ∷ [] = c.in-Some.ensures in
    let lie = each-part (ReportLiesIn c.args.source.now) c.pop.new.self (report ∷ []) (subst (AllByRecursion (ReportLiesIn c.args.source.now)) split c.reports.invariant.1) in
    (λ f. rw (c.in_ok-push.ensures.items, c.moved_range.ensures) (moved_on f c.args.start c.reports.all.items c.reports.reports c.pop.new.self report split ∙ c.reports.invariant.0 f), lie.0)
