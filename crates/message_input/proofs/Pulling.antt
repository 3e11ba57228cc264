-- A piece that is pulled, after what was taken before.
use Rattle.std.proofs.Common.{◌≡◌, ◌+◌, ◌≤◌, [], ◌++◌, List, ℕ, Option, arith, length, take, subst}
use Rattle.std.proofs.lemmas.List.{length-append, length-take-le}
use Rattle.std.specs.Io.KnownBytes.{Consumes}
use Rattle.std.proofs.KnownBytes.{Consumes-trans}
use Rattle.pide_base.specs.Moves.{PulledSo}
use Rattle.pide_base.specs.declared.source.Pulled.TheVariants as pulled
use Rattle.pide_base.specs.declared.status.Status.{Status}
use Rattle.byte_message.specs.Kept.{Framing, Stands}
use Rattle.message_input.specs.Answers.{KeepsUp}
use Rattle.message_input.specs.Inputs.{IsRead}
use Rattle.message_input.specs.Steps.{StepSo}
use Rattle.message_input.specs.declared.input.Step.{Step}
use Rattle.message_input.specs.declared.input.Step.TheVariants as step
use Rattle.message_input.proofs.Decoding.{begins}

-- it was taken too, and is no longer than there was room for
pub pulled_more : (first left left' : Option (List ℕ)) (taken buffer : List ℕ) (n most limit : ℕ) → Consumes first left taken → length taken + most ≤ limit
    → length buffer ≡ most → PulledSo left left' buffer (pulled.Bytes n)
    → Consumes first left' (taken ++ take n buffer) × (length (taken ++ take n buffer) ≤ limit) × (length (take n buffer) ≡ n) × (n ≤ most)
pulled_more first left left' taken buffer n most limit took few long moved =
    let same : length (take n buffer) ≡ n = length-take-le n buffer moved.1 in
    let both = length-append taken (take n buffer) in
    let within = moved.1 in
    (Consumes-trans first left left' taken (take n buffer) took moved.2, omega arith, same, omega arith)

-- nothing was pulled
pub keeps_first : {A : Type 0} (Goes : A → List (List (List ℕ)) → A → Type 0) (a : A) (frames : Framing) → Stands [] [] frames → Goes a [] a
    → KeepsUp Goes a [] a frames
keeps_first Goes a frames stands goes =
    let b = begins frames stands in
    record { messages = []; stands = stands; none_waits = b.0; fine = b.1; goes = goes }

-- what came of a pull, by its kind
module _ {A : Type 0} (Goes : A → List (List (List ℕ)) → A → Type 0) (limit : ℕ) (s : Step) (left left' : Option (List ℕ)) (taken : List ℕ) (most : ℕ) (old new : A)
    (frames : Framing) (so : StepSo Goes limit s left left' taken most old new frames) where
  pub step_taken : (n : ℕ) → s ≡ step.Taken n → StepSo Goes limit (step.Taken n) left left' taken most old new frames
  step_taken n e = subst (λ (x : Step). StepSo Goes limit x left left' taken most old new frames) e so

  pub step_ends : (how : Status) → s ≡ step.Ends how → IsRead Goes limit how left left' old new
  step_ends how e = subst (λ (x : Step). StepSo Goes limit x left left' taken most old new frames) e so
