-- What holds of every command (this project's own).
use Rattle.std.specs.Prelude.{◌≡◌, ◌⊎◌, ℕ, false, List, [], ◌∷◌, Option, Some, None}
use Rattle.std.specs.List.{filter_map}
use Rattle.report_markup.specs.declared.kind.ReportKind.{ReportKind}
use Rattle.report_markup.specs.declared.kind.ReportKind.TheVariants.{Error}
use Rattle.report_markup.specs.declared.report.Report.{Report}
use Rattle.language.specs.declared.made.Made.{Made}
use Rattle.isar_rules.specs.declared.state.State.{State}
use Rattle.isar_rules.specs.Steps.{after_error}

-- the text of an error
abbrev pub error_at : ReportKind → List ℕ → Option (List ℕ)
error_at Error text = Some text
error_at _ text = None

-- the errors among reports
abbrev pub errors_in : List Report → List (List ℕ)
errors_in = filter_map (λ r. error_at r.kind r.text)

-- the state is as before, but a first command that is refused begins no theory; nothing is worked
-- on behind the command
pub record LeavesState (before : State) (made : Made State) : Type 0 where
  pub state : made.state ≡ record before { place = after_error before.place }
  pub forks : made.forks ≡ false

-- no error is reported, or just one, and then the state is left
abbrev pub IsDoneOrRefused : State → Made State → Type 0
IsDoneOrRefused before made = (errors_in made.reports ≡ [])
    ⊎ ((text : List ℕ) × (errors_in made.reports ≡ text ∷ []) × LeavesState before made)
