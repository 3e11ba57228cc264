-- What is reported of commands (kinds after the markup of Isabelle/PIDE; this project's own).
use Rattle.std.specs.Prelude.{ℕ, if◌then◌else◌, List, [], ◌∷◌, length, Option, Some, None}
use Rattle.pide_base.specs.declared.range.Range.{Range}
use Rattle.outer_syntax.specs.Kinds.{is_command}
use Rattle.outer_syntax.specs.Tokens.{text_of}
use Rattle.outer_syntax.specs.declared.token.Token.{Token}
use Rattle.nj_formula.specs.declared.formula.Formula.{Formula}
use Rattle.report_markup.specs.declared.kind.ReportKind.{ReportKind}
use Rattle.report_markup.specs.declared.kind.ReportKind.TheVariants as kind
use Rattle.report_markup.specs.declared.property.Property.{Property}
use Rattle.report_markup.specs.declared.property.PropertyKey.TheVariants as key
use Rattle.report_markup.specs.declared.report.Report.{Report}
use Rattle.isar_rules.specs.declared.shape.Spot.{Spot}
use Rattle.nj_syntax.specs.Printed.{formula_text}

-- a report of a range
abbrev pub report : ReportKind → Range → List Property → List ℕ → Report
report kind range properties text =
    record { range = range; kind = kind; properties = properties; text = text }

-- the theory of what is reported
abbrev pub theory_is : List ℕ → Property
theory_is name = record { key = key.Theory; value = name }

-- its name
abbrev pub name_is : List ℕ → Property
name_is name = record { key = key.Name; value = name }

-- all of a command's source
abbrev pub whole : List ℕ → Range
whole source = record { start = 0; stop = length source }

-- the command, by the word that is written; what begins with no command has none
abbrev pub announced : List ℕ → List Token → List Report
announced source [] = []
announced source (t ∷ ts) = if is_command t.kind
    then report kind.Command t.range (name_is (text_of source t) ∷ []) [] ∷ [] else []

-- an error
abbrev pub error_report : List ℕ → List ℕ → Report
error_report source text = report kind.Error (whole source) [] text

-- a theory's name
abbrev pub theory_report : Spot → Report
theory_report name = report kind.Theory name.range (name_is name.text ∷ []) []

-- the name of an import
abbrev pub import_report : Spot → Report
import_report name = report kind.Import name.range (name_is name.text ∷ []) []

-- the name of a theory's new fact
abbrev pub def_report : List ℕ → Spot → Report
def_report theory name =
    report kind.Def name.range (theory_is theory ∷ name_is name.text ∷ []) []

-- a new local name, where there is one
abbrev pub local_report : Option Spot → List Report
local_report None = []
local_report (Some name) = report kind.Def name.range (name_is name.text ∷ []) [] ∷ []

-- a formula, printed
abbrev pub formula_report : Spot → Formula → Report
formula_report quoted f = report kind.Formula quoted.range [] (formula_text f)
