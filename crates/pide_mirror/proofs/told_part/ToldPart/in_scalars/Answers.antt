-- Reports that count scalars stay as they are.
use Rattle.std.proofs.Common.{◌≡◌, ap, sym, ◌∙◌, map, List, subst}
use Rattle.std.specs.Result.{IfOk}
use Rattle.std.proofs.lemmas.List.{map-id}
use Rattle.report_markup.specs.declared.report.Report.{Report}
use Rattle.mirror_rules.specs.Reports.{in_scalars}
use Rattle.pide_mirror.proofs.told_part.ToldPart.in_scalars.Goals as goal

pub returns-in-Scalars : goal.returns-in-Scalars
returns-in-Scalars c =
    let same : c.args.self.now.reports ≡ map (in_scalars c.args.self.now.protocol c.args.source.now) c.args.self.now.reports
    = sym (ap (λ p. map (in_scalars p c.args.source.now) c.args.self.now.reports) c.in-Scalars.is ∙ map-id c.args.self.now.reports) in
    subst (λ (rs : List Report). IfOk c.copy.result (λ reports. reports ≡ rs)) same c.copy.ensures
