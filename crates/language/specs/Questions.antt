-- How often work asks whether to stop (this project's own).
use Rattle.std.specs.Prelude.{◌≡◌, ⊤, ℕ, List, Option}
use Rattle.pide_base.specs.Questions.{risen_by, IsAskedUpTo}
use Rattle.language.specs.declared.answer.Answer.{Answer}
use Rattle.language.specs.declared.answer.Answer.TheVariants.{Given, Stopped, NoMemory}

-- how often a language asks: while a command is worked on, with its blob; and while it forks
pub record Questions (S : Type 0) : Type 0 where
  pub step : List ℕ → Option (List ℕ) → S → ℕ
  pub fork : List ℕ → S → ℕ

-- of the counts of questions before and after: so many were asked, or up to so many where the work
-- was stopped
abbrev pub AsksSo : {T : Type 0} → Answer T → ℕ → ℕ → ℕ → Type 0
AsksSo (Given answer) questions before now = now ≡ risen_by questions before
AsksSo Stopped questions before now = IsAskedUpTo questions before now
AsksSo NoMemory questions before now = ⊤
