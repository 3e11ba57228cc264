-- The markup of small texts and its lines, computed (this project's own).
use Rattle.std.specs.Prelude.{◌≡◌, ℕ, List, [], ◌∷◌, codes}
use Rattle.report_markup.specs.declared.kind.ReportKind.TheVariants as kind
use Rattle.report_markup.specs.declared.report.Report.{Report}
use Rattle.isar_rules.specs.Isar.{isar}
use Rattle.nj_syntax.specs.Printed.{formula_text}
use Rattle.isar_rules.specs.Reports.{name_is, theory_is}
use Rattle.isar_rules.specs.Small.{said, prop}
use Rattle.text_check.specs.OneText.{markup_of}
use Rattle.text_check.specs.Lines.{report_line}

-- a command, and an error
abbrev pub command : ℕ → ℕ → List ℕ → Report
command start stop name = said kind.Command start stop (name_is name ∷ []) []

-- an error's report
abbrev pub error : ℕ → ℕ → List ℕ → Report
error start stop text = said kind.Error start stop [] text

-- theories without facts, and a text that is none
pub record SmallTheories : Type 0 where
  pub nothing : markup_of isar (codes "  ") ≡ []
  pub empty : markup_of isar (codes "theory A begin end")
      ≡ command 0 6 (codes "theory")
      ∷ said kind.Theory 7 8 (name_is (codes "A") ∷ []) []
      ∷ command 15 18 (codes "end") ∷ []
  pub bad_import : markup_of isar (codes "theory C imports D begin end")
      ≡ error 0 24 (codes "bad import D")
      ∷ command 0 6 (codes "theory")
      ∷ command 25 28 (codes "end")
      ∷ error 25 28 (codes "not allowed here") ∷ []
  pub no_header : markup_of isar (codes "end")
      ≡ command 0 3 (codes "end") ∷ error 0 3 (codes "not allowed here") ∷ []
  pub malformed : markup_of isar (codes "x theory A begin end")
      ≡ error 0 1 (codes "malformed command")
      ∷ error 2 16 (codes "not allowed here")
      ∷ command 2 8 (codes "theory")
      ∷ command 17 20 (codes "end")
      ∷ error 17 20 (codes "not allowed here") ∷ []

-- a theory of one axiom, and a lemma without a proof behind it
pub record SmallFacts : Type 0 where
  pub an_axiom : markup_of isar (codes "theory A begin axiom a: \"P\" end")
      ≡ command 0 6 (codes "theory")
      ∷ said kind.Theory 7 8 (name_is (codes "A") ∷ []) []
      ∷ command 15 20 (codes "axiom")
      ∷ said kind.Def 21 22 (theory_is (codes "A") ∷ name_is (codes "a") ∷ []) []
      ∷ said kind.Formula 24 27 [] (formula_text (prop (codes "P")))
      ∷ command 28 31 (codes "end") ∷ []
  pub a_lemma : markup_of isar (codes "theory A begin lemma l: \"P\" end")
      ≡ command 0 6 (codes "theory")
      ∷ said kind.Theory 7 8 (name_is (codes "A") ∷ []) []
      ∷ command 15 20 (codes "lemma")
      ∷ said kind.Def 21 22 (theory_is (codes "A") ∷ name_is (codes "l") ∷ []) []
      ∷ said kind.Formula 24 27 [] (formula_text (prop (codes "P")))
      ∷ command 28 31 (codes "end")
      ∷ error 28 31 (codes "not allowed here") ∷ []

-- lines of reports
pub record SmallLines : Type 0 where
  pub property : report_line (command 0 6 (codes "theory")) ≡ codes "0-6 command name=theory\n"
  pub text : report_line (error 28 32 (codes "unknown name x"))
      ≡ codes "28-32 error: unknown name x\n"
  pub neither : report_line (said kind.Proved 34 47 [] []) ≡ codes "34-47 proved\n"
