use Rattle.std.proofs.Common.{rules, ◌≡◌, None, sym, subst, ◌∙◌, ap}
use Rattle.std.specs.Arc.{arc_value}
use Rattle.report_markup.specs.Sorting.{insert_report}
use Rattle.report_markup.specs.Crossing.{first_crossing}
use Rattle.report_markup.specs.Standing.{Stand}
use Rattle.report_markup.proofs.StandLemmas.{none_crossed, joins}
use Rattle.report_markup.proofs.markup.MarkupTree.add.Goals as goal

pub invariant_of-self : goal.invariant_of-self
invariant_of-self c =
    let none : first_crossing c.args.report.range c.self.inside.tree ≡ None = search rules in
    let held : arc_value c.in_ok-report.report ≡ c.args.report = search rules in
    subst Stand (sym (c.in_ok-self-inside.ensures ∙ ap (λ r. insert_report r c.self.inside.tree) held))
    (joins c.args.report c.self.inside.tree c.self.invariant (none_crossed c.args.report.range c.self.inside.tree none))
