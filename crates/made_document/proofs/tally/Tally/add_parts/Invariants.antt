-- What was counted, and what is left to count, make up all.
use Rattle.std.proofs.Common.{◌≡◌, ◌++◌, List, drop}
use Rattle.report_markup.specs.declared.report.Report.{Report}
use Rattle.made_document.specs.Tallies.{IsTally, results_reports}
use Rattle.made_document.proofs.tally.Tally.add_parts.Given as goal

abbrev pub invariant-parts : goal.invariant-parts
invariant-parts l = (all : List Report) → IsTally l.initial.self all
    → (so : List Report) × (so ++ results_reports (drop l.part-index l.parts) ≡ all ++ results_reports l.parts) × IsTally l.self so
