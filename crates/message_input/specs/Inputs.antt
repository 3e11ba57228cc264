-- What came of an input: the bytes taken are those that were left before and no more after (this
-- project's own).
use Rattle.std.specs.Prelude.{◌≢◌, ℕ, ◌≤◌, List, length, Option}
use Rattle.std.specs.Io.KnownBytes.{Consumes}
use Rattle.pide_base.specs.declared.status.Status.{Status}
use Rattle.pide_base.specs.declared.status.Status.TheVariants as status
use Rattle.byte_message.specs.Stream.{Ending}
use Rattle.message_input.specs.declared.answering.Halt.{Halt}
use Rattle.message_input.specs.declared.answering.Halt.TheVariants as halt
use Rattle.message_input.specs.Answers.{AnswersAll, AnswersSome}
use Rattle.message_input.specs.Causes.{HasCause, Tells}

-- all messages of the bytes taken were answered, and the status, which is none of a halt, tells how
-- the bytes end
pub record IsRead {A : Type 0} (Goes : A → List (List (List ℕ)) → A → Type 0) (limit : ℕ)
    (how : Status) (left left' : Option (List ℕ)) (old new : A) : Type 0 where
  pub taken : List ℕ
  pub consumes : Consumes left left' taken
  pub ending : Ending
  pub tells : Tells how ending
  pub answers : AnswersAll Goes old taken ending new
  pub cause : HasCause limit how left left'
  pub writes : how ≢ status.WriteFault
  pub has_memory : how ≢ status.NoMemory
  pub replies : (len : ℕ) → how ≢ status.BadReply len

-- a front of the messages of the bytes taken was answered, and no more
pub record IsHalted {A : Type 0}
    (Halts : A → List (List (List ℕ)) → Halt → List (List (List ℕ)) → A → Type 0) (limit : ℕ)
    (how : Halt) (left left' : Option (List ℕ)) (old new : A) : Type 0 where
  pub taken : List ℕ
  pub consumes : Consumes left left' taken
  pub few : length taken ≤ limit
  pub answers : AnswersSome Halts old taken how new

-- all messages of these bytes were answered, the status tells how the bytes end, and the end was
-- taken note of
pub record AnswersToEnd {A : Type 0} (Goes : A → List (List (List ℕ)) → A → Type 0)
    (Ends : A → A → Type 0) (how : Status) (old : A) (bytes : List ℕ) (new : A) : Type 0 where
  pub ending : Ending
  pub tells : Tells how ending
  pub last : A
  pub answers : AnswersAll Goes old bytes ending last
  pub ends : Ends last new

-- so by the status; where answering halts, a front of them was
abbrev pub AnswersSo : {A : Type 0} → (A → List (List (List ℕ)) → A → Type 0)
    → (A → List (List (List ℕ)) → Halt → List (List (List ℕ)) → A → Type 0)
    → (A → A → Type 0) → Status → A → List ℕ → A → Type 0
AnswersSo Goes Halts Ends status.WriteFault old bytes new =
    AnswersSome Halts old bytes halt.WriteFault new
AnswersSo Goes Halts Ends status.NoMemory old bytes new =
    AnswersSome Halts old bytes halt.NoMemory new
AnswersSo Goes Halts Ends (status.BadReply len) old bytes new =
    AnswersSome Halts old bytes (halt.BadReply len) new
AnswersSo Goes Halts Ends how old bytes new = AnswersToEnd Goes Ends how old bytes new

-- so for the bytes taken
abbrev pub IsAnswered : {A : Type 0} → (A → List (List (List ℕ)) → A → Type 0)
    → (A → List (List (List ℕ)) → Halt → List (List (List ℕ)) → A → Type 0)
    → (A → A → Type 0) → Status → Option (List ℕ) → Option (List ℕ) → A → A → Type 0
IsAnswered Goes Halts Ends how left left' old new = (taken : List ℕ) × Consumes left left' taken
    × AnswersSo Goes Halts Ends how old taken new
