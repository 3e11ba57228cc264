-- What one pull does (this project's own).
use Rattle.std.specs.Prelude.{◌≡◌, ℕ, ◌<◌, ◌≤◌, List, ◌++◌, length, Option}
use Rattle.std.specs.Io.KnownBytes.{Consumes}
use Rattle.pide_base.specs.declared.status.Status.{Status}
use Rattle.pide_base.specs.declared.status.Status.TheVariants as status
use Rattle.byte_message.specs.Kept.{Framing}
use Rattle.byte_message.specs.Stream.{Ending}
use Rattle.byte_message.specs.Stream.Ending.{Whole, Short}
use Rattle.message_input.specs.declared.input.Step.{Step}
use Rattle.message_input.specs.declared.input.Step.TheVariants as step
use Rattle.message_input.specs.Answers.{KeepsUp}
use Rattle.message_input.specs.Inputs.{IsRead}

-- the status of an input that ends so, where no line is at fault
abbrev pub EndsWith : Status → Ending → Type 0
EndsWith status.Done ending = ending ≡ Whole
EndsWith (status.Truncated at) ending = ending ≡ Short at
EndsWith _ ending = ⊥

-- after these bytes one more, and at most so many, are taken and answered; or the input ends
abbrev pub StepSo : {A : Type 0} → (A → List (List (List ℕ)) → A → Type 0) → ℕ → Step
    → Option (List ℕ) → Option (List ℕ) → List ℕ → ℕ → A → A → Framing → Type 0
StepSo Goes limit (step.Taken n) left left' taken most old new frames =
    (more : List ℕ) × (length more ≡ n) × (0 < n) × (n ≤ most)
    × Consumes left left' (taken ++ more) × KeepsUp Goes old (taken ++ more) new frames
StepSo Goes limit (step.Ends how) left left' taken most old new frames =
    IsRead Goes limit how left left' old new
