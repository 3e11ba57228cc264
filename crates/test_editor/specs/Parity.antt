-- A language of two states: whether an odd number of commands was run.
use Rattle.std.specs.Prelude.{ℕ, Bool, true, false, not, nat_lt, is_some, List, [], length, Option, Some, None}
use Rattle.std.specs.List.{AllByRecursion}
use Rattle.report_markup.specs.Ranges.{IsTreelike}
use Rattle.report_markup.specs.declared.kind.ReportKind.{ReportKind}
use Rattle.report_markup.specs.declared.kind.ReportKind.TheVariants as report
use Rattle.test_editor.specs.About.{about, lies, to_two, to_three}
use Rattle.language.specs.Lang.{Lang}
use Rattle.language.specs.Laws.{AreTidy, LiesIn, reports_of}
use Rattle.language.specs.declared.made.Imports.{Imports}
use Rattle.language.specs.declared.made.Imports.TheVariants.{Ordered, Bad}

-- a node begins odd where it is ordered and has imports
abbrev pub begun : Imports Bool → Bool
begun (Ordered imports) = nat_lt 0 (length imports)
begun (Bad name) = false

-- what is reported of a fork in a state
abbrev pub forked : Bool → ReportKind
forked true = report.Proved
forked false = report.Ref

-- what is printed of a state
abbrev pub printed : Bool → ReportKind
printed true = report.State
printed false = report.Error

-- a command forks where it has a blob
abbrev pub parity : Lang Bool
parity = record {
  start = λ node imports aliases. begun imports;
  step = λ source blob state. record {
    state = not state;
    reports = about report.Command source [];
    forks = is_some blob;
  };
  fork = λ source state. about (forked state) source [];
  print = λ source state. about (printed state) source [];
}

lie : (source : List ℕ) (blob : Option (List ℕ)) (state : Bool)
    → AllByRecursion (LiesIn source) (reports_of parity source blob state)
lie source None state = (lies report.Command source [], (lies (printed (not state)) source [], tt))
lie source (Some text) state = (
  lies report.Command source [],
  (
    lies (forked state) source [],
    (lies (printed (not state)) source [], tt),
  ),
)

treelike : (source : List ℕ) (blob : Option (List ℕ)) (state : Bool)
    → IsTreelike (reports_of parity source blob state)
treelike source None state =
    let i = report.Command in let j = printed (not state) in
    (to_two i i j source [] [] [], (to_two j i j source [] [] [], tt))
treelike source (Some text) state =
    let i = report.Command in let j = forked state in let k = printed (not state) in (
      to_three i i j k source [] [] [] [],
      (
        to_three j i j k source [] [] [] [],
        (to_three k i j k source [] [] [] [], tt),
      ),
    )

-- each report is of the whole source
pub tidy : AreTidy parity
tidy = record { lie = lie; treelike = treelike }
