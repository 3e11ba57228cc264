-- What is printed behind a command (this project's own).
use Rattle.std.specs.Prelude.{ℕ, List, [], ◌∷◌, ◌++◌, map, codes, Option, Some, None}
use Rattle.proof_state.specs.declared.levels.Levels.TheVariants.{Prove}
use Rattle.proof_state.specs.Locals.{locals_of}
use Rattle.proof_terms.specs.declared.term.Term.{Term}
use Rattle.suggest_rules.specs.Search.{suggested}
use Rattle.suggest_rules.specs.TermText.{by_text}
use Rattle.report_markup.specs.declared.kind.ReportKind.TheVariants as kind
use Rattle.report_markup.specs.declared.report.Report.{Report}
use Rattle.isar_rules.specs.declared.state.Place.{Place}
use Rattle.isar_rules.specs.declared.state.Place.TheVariants as place
use Rattle.isar_rules.specs.declared.state.State.{State}
use Rattle.isar_rules.specs.Described.{levels_text}
use Rattle.isar_rules.specs.Reports.{report, whole}

-- the text of a place
abbrev pub place_text : Place → List ℕ
place_text (place.Start node given keyword) = codes "no theory"
place_text place.Outside = codes "no theory"
place_text (place.Theory theory) = codes "theory " ++ theory.name
place_text (place.Proof theory name goal levels) = levels_text levels
place_text (place.End theory) = codes "theory " ++ (theory.name ++ codes " ended")

-- the proof that is suggested at a place, under the names of these aliases: one of the open goal
abbrev pub suggested_at : List (List ℕ) → Place → Option Term
suggested_at aliases (place.Proof theory name start (Prove goal around)) =
    suggested goal (locals_of (Prove goal around)) aliases
suggested_at aliases _ = None

-- the report of a suggested proof, where there is one
abbrev pub suggestion : List ℕ → Option Term → List Report
suggestion source None = []
suggestion source (Some t) = report kind.Suggest (whole source) [] (by_text t) ∷ []

-- what is printed of a command, by the state behind it
abbrev pub print : List ℕ → State → List Report
print source behind = report kind.State (whole source) [] (place_text behind.place)
    ∷ suggestion source (suggested_at (map (λ pair. pair.0) behind.aliases) behind.place)
