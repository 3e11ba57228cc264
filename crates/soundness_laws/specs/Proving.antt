-- Commands that prove an open goal (this project's own).
use Rattle.std.specs.Prelude.{◌≡◌, ℕ, true, List, [], Option}
use Rattle.isar_rules.specs.declared.state.State.{State}
use Rattle.isar_rules.specs.Forks.{fork}
use Rattle.isar_rules.specs.Kept.{errors_in}
use Rattle.isar_rules.specs.Steps.{step}

-- in the state, the command reports no error and forks, and its fork reports none
pub record IsProvedBy (state : State) (source : List ℕ) (blob : Option (List ℕ)) : Type 0 where
  pub quiet : errors_in (step source blob state).reports ≡ []
  pub forks : (step source blob state).forks ≡ true
  pub proved : errors_in (fork source state) ≡ []
