-- What makes the reader's steps a reader of formulas, or of terms.
use Rattle.std.proofs.Common.{◌≡◌, List, Option, Some}
use Rattle.nj_syntax.specs.Terms.{Deep}
use Rattle.nj_syntax.specs.Answers.{Begins}
use Rattle.nj_syntax.specs.Steps.{State}
use Rattle.nj_syntax.proofs.Runs.{Runs}

pub record IsReader {A : Type 0} (Is : List Deep → A → Type 0) (start : State) (ends : State → Option A) : Type 0 where
  -- with what has been read something begins
  pub begins : (deep : List Deep) (s : State) → Runs start deep s → Begins Is deep
  pub sound : (deep : List Deep) (s : State) (a : A) → Runs start deep s → ends s ≡ Some a → Is deep a
  pub complete : (deep : List Deep) (a : A) → Is deep a → (s : State) × Runs start deep s × (ends s ≡ Some a)
