-- What holds of the answers to texts.
use Rattle.std.specs.Prelude.{◌≡◌, ◌⊎◌, ℕ, List, Result, Err}
use Rattle.nj_syntax.specs.declared.fault.FormulaFault.{FormulaFault}
use Rattle.nj_syntax.specs.Terms.{Deep}
use Rattle.nj_syntax.specs.Answers.{Answers}

-- each text has an answer, which the function gives, and no other one where memory suffices
pub record HasOneAnswer {A : Type 0} (Is : List Deep → A → Type 0)
    (value : List ℕ → Result A FormulaFault) : Type 0 where
  pub has : (text : List ℕ) → Answers Is text (value text)
  pub one : (text : List ℕ) (answer : Result A FormulaFault) → Answers Is text answer
      → (answer ≡ Err FormulaFault.NoMemory) ⊎ (answer ≡ value text)
  pub tells : (text : List ℕ) → value text ≡ Err FormulaFault.NoMemory → ⊥
