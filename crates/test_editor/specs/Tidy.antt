-- The reports of the language of numbers are of whole sources.
use Rattle.std.specs.Prelude.{ℕ, Bool, true, false, if◌then◌else◌, List, [], ◌++◌, decimal}
use Rattle.std.specs.List.{AllByRecursion}
use Rattle.report_markup.specs.Ranges.{IsTreelike}
use Rattle.report_markup.specs.declared.kind.ReportKind.TheVariants as report
use Rattle.report_markup.specs.declared.report.Report.{Report}
use Rattle.language.specs.Laws.{AreTidy, LiesIn}
use Rattle.test_editor.specs.About.{about, lies, to_two, to_three}
use Rattle.test_editor.specs.Tally.{run, is_forking, counting}

-- all that is reported of a command, where it forks or not
abbrev reports_by : List ℕ → Bool → ℕ → ℕ → List Report
reports_by source forks before behind =
    (about report.Command source (decimal behind)
    ++ (if forks then about report.Proved source (decimal before) else []))
    ++ about report.State source (decimal behind)

lie_by : (source : List ℕ) (forks : Bool) (before behind : ℕ)
    → AllByRecursion (LiesIn source) (reports_by source forks before behind)
lie_by source false before behind =
    (lies report.Command source (decimal behind), (lies report.State source (decimal behind), tt))
lie_by source true before behind = (
  lies report.Command source (decimal behind),
  (lies report.Proved source (decimal before), (lies report.State source (decimal behind), tt)),
)

treelike_by : (source : List ℕ) (forks : Bool) (before behind : ℕ)
    → IsTreelike (reports_by source forks before behind)
treelike_by source false before behind =
    let i = report.Command in let j = report.State in let t = decimal behind in
    (to_two i i j source t t t, (to_two j i j source t t t, tt))
treelike_by source true before behind =
    let i = report.Command in let j = report.Proved in let k = report.State in
    let s = decimal before in let t = decimal behind in (
      to_three i i j k source t t s t,
      (
        to_three j i j k source s t s t,
        (to_three k i j k source t t s t, tt),
      ),
    )

-- each report is of the whole source
pub tidy : AreTidy counting
tidy = record {
  lie = λ source blob n. lie_by source (is_forking source) n (run source blob n);
  treelike = λ source blob n. treelike_by source (is_forking source) n (run source blob n);
}
