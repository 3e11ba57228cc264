-- The commands are run in the text.
use Rattle.std.proofs.Common.{[], sym, ap₂, ◌∙◌}
use Rattle.report_markup.specs.Sorting.{ordered_reports}
use Rattle.text_check.specs.OneText.{one_sheet}
use Rattle.node_check.specs.Walking.{reports_from}
use Rattle.text_check.proofs.OneMarkup.{Numbered, lie_so, markup_so}
use Rattle.text_check.proofs.markup.markup_of.Goals as goal

pub run_commands-requires : goal.run_commands-requires
run_commands-requires g c =
    let numbered : Numbered = λ now. (c.ids_law.ensures [] now 1).counted in
    rw (c.deref.ensures.value, c.in_ok-ranges.ensures.places) (lie_so numbered c.args.text.now (c.places_law.ensures [] (one_sheet c.args.text.now) 1))

pub returns : goal.returns
returns g c =
    let l = g.L.Language.lang in
    let text = c.args.text.now in
    let numbered : Numbered = λ now. (c.ids_law.ensures [] now 1).counted in
    let ranges = c.deref.ensures.value ∙ c.in_ok-ranges.ensures.places in
    c.in_ok-run.ensures.reports ∙ ap₂ (λ rs s. ordered_reports (reports_from l text rs s)) ranges
    c.in_ok-ranges.ensures.begins
    ∙ sym (markup_so l numbered text)
