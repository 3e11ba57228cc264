-- A message that stops the answers.
use Rattle.std.proofs.Common.{◌≡◌, ◌≤◌, [], ◌∷◌, List, ℕ, Option, Result, Ok, Err, IfErr, refl, sym, subst}
use Rattle.std.specs.Result.{IsErrAnd}
use Rattle.language.specs.Lang.{Lang}
use Rattle.document_session.specs.Contents.{SessionState}
use Rattle.message_input.specs.Answers.{HaltsAmong}
use Rattle.message_input.specs.declared.answering.Halt.{Halt}
use Rattle.message_input.specs.declared.answering.Halt.TheVariants as halt
use Rattle.message_input.specs.Counts.{CountsSo}
use Rattle.message_input.proofs.KnownHalting.{counts_later}
use Rattle.document_serve.specs.Runs.{Fails, RunsShort, StopsSo}

-- these messages, as serving one of them tells it
abbrev pub StopsAmong : {S : Type 0} → Lang S → Option (List ℕ) → Option (List ℕ) → SessionState → List (List (List ℕ)) → Halt → SessionState → Type 0
StopsAmong l held held' old messages h new =
    HaltsAmong (λ (o : SessionState) first x rest (n : SessionState). StopsSo l x held held' o n first rest) old messages h new

-- a count that rose where it halted had not fallen before
pub counts_on : {T : Type 0} (r : Result T Halt) (before mid now : ℕ) → before ≤ mid → IfErr r (λ h. CountsSo h mid now) → IfErr r (λ h. CountsSo h before now)
counts_on (Ok x) before mid now first then = tt
counts_on (Err h) before mid now first then = counts_later h before mid now first then

module _ {S : Type 0} (l : Lang S) (held held' : Option (List ℕ)) (old new : SessionState) (came : List (List ℕ)) where
  -- before the message was answered
  pub fails_before : Fails l held held' old new [] (came ∷ []) → StopsAmong l held held' old (came ∷ []) halt.WriteFault new
  fails_before f = record { first = []; rest = came ∷ []; parts = refl; halts = f }

  pub short_before : RunsShort l held held' old new [] (came ∷ []) → StopsAmong l held held' old (came ∷ []) halt.NoMemory new
  short_before f = record { first = []; rest = came ∷ []; parts = refl; halts = f }

  -- behind it
  pub fails_behind : Fails l held held' old new (came ∷ []) [] → StopsAmong l held held' old (came ∷ []) halt.WriteFault new
  fails_behind f = record { first = came ∷ []; rest = []; parts = refl; halts = f }
