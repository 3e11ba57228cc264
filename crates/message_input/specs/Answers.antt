-- How messages are answered (this project's own). `A` is what answers; `Goes old messages new` says
-- that it came from the one to the other by answering these, `Halts old first halt rest new` that it
-- answered the first of these, and halted before the rest.
use Rattle.std.specs.Prelude.{◌≡◌, ℕ, List, [], ◌++◌, None}
use Rattle.byte_message.specs.Kept.{Framing, Stands}
use Rattle.byte_message.specs.Stream.{Ending, IsReadAs}
use Rattle.message_input.specs.declared.answering.Halt.{Halt}

-- a front of these messages was answered, and no more
pub record HaltsAmong {A : Type 0}
    (Halts : A → List (List (List ℕ)) → Halt → List (List (List ℕ)) → A → Type 0)
    (old : A) (messages : List (List (List ℕ))) (halt : Halt) (new : A) : Type 0 where
  pub first : List (List (List ℕ))
  pub rest : List (List (List ℕ))
  pub parts : messages ≡ first ++ rest
  pub halts : Halts old first halt rest new

-- the messages of these bytes were answered; the bytes end so
pub record AnswersAll {A : Type 0} (Goes : A → List (List (List ℕ)) → A → Type 0) (old : A)
    (bytes : List ℕ) (ending : Ending) (new : A) : Type 0 where
  pub messages : List (List (List ℕ))
  pub read : IsReadAs bytes messages ending
  pub goes : Goes old messages new

-- a front of the messages of these bytes was answered, and no more
pub record AnswersSome {A : Type 0}
    (Halts : A → List (List (List ℕ)) → Halt → List (List (List ℕ)) → A → Type 0)
    (old : A) (bytes : List ℕ) (halt : Halt) (new : A) : Type 0 where
  pub messages : List (List (List ℕ))
  pub ending : Ending
  pub read : IsReadAs bytes messages ending
  pub halted : HaltsAmong Halts old messages halt new

-- each message that these bytes make whole was answered, and no line of them is at fault
pub record KeepsUp {A : Type 0} (Goes : A → List (List (List ℕ)) → A → Type 0) (old : A)
    (bytes : List ℕ) (new : A) (frames : Framing) : Type 0 where
  pub messages : List (List (List ℕ))
  pub stands : Stands bytes messages frames
  pub none_waits : frames.waiting ≡ []
  pub fine : frames.fault ≡ None
  pub goes : Goes old messages new
