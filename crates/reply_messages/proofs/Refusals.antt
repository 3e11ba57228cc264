-- Each refusal has a number of its own.
use Rattle.std.proofs.Common.{◌≡◌, ℕ, ◌==◌, List, [], ◌∷◌, find, decimal, Option, Some, refl, sym, ap, ◌∙◌, arith}
use Rattle.std.proofs.lemmas.Fmt.{decimal_injective}
use Rattle.message_values.specs.declared.refusal.Refusal.{Refusal}
use Rattle.message_values.specs.declared.refusal.Refusal.TheVariants as refused
use Rattle.message_values.specs.Refusals.{refusal_number}
use Rattle.reply_messages.specs.Fits.{IsWide}

-- all refusals
abbrev refusals : List Refusal
refusals = refused.UnknownFunction ∷ refused.ArgumentCount ∷ refused.BadUtf8 ∷ refused.BadYxml ∷ refused.BadData ∷ refused.VersionNotHigher ∷ refused.UnknownVersion ∷ refused.TipVersion ∷ refused.NodeTwice ∷ refused.UnknownNode ∷ refused.EditOutOfRange ∷ refused.RemoveDiffers ∷ refused.PerspectiveOutOfRange ∷ refused.UnknownExecution ∷ refused.Limit ∷ refused.NothingToStep ∷ refused.StepHeld ∷ refused.ProtocolFixed ∷ refused.BlobTwice ∷ refused.UnknownBlob ∷ []

-- the refusal of a number
abbrev numbered : ℕ → Option Refusal
numbered n = find (λ reason. refusal_number reason == n) refusals

known : (reason : Refusal) → numbered (refusal_number reason) ≡ Some reason
known refused.UnknownFunction = refl
known refused.ArgumentCount = refl
known refused.BadUtf8 = refl
known refused.BadYxml = refl
known refused.BadData = refl
known refused.VersionNotHigher = refl
known refused.UnknownVersion = refl
known refused.TipVersion = refl
known refused.NodeTwice = refl
known refused.UnknownNode = refl
known refused.EditOutOfRange = refl
known refused.RemoveDiffers = refl
known refused.PerspectiveOutOfRange = refl
known refused.UnknownExecution = refl
known refused.Limit = refl
known refused.NothingToStep = refl
known refused.StepHeld = refl
known refused.ProtocolFixed = refl
known refused.BlobTwice = refl
known refused.UnknownBlob = refl

pub refusal_is_wide : (reason : Refusal) → IsWide (refusal_number reason)
refusal_is_wide refused.UnknownFunction = omega arith
refusal_is_wide refused.ArgumentCount = omega arith
refusal_is_wide refused.BadUtf8 = omega arith
refusal_is_wide refused.BadYxml = omega arith
refusal_is_wide refused.BadData = omega arith
refusal_is_wide refused.VersionNotHigher = omega arith
refusal_is_wide refused.UnknownVersion = omega arith
refusal_is_wide refused.TipVersion = omega arith
refusal_is_wide refused.NodeTwice = omega arith
refusal_is_wide refused.UnknownNode = omega arith
refusal_is_wide refused.EditOutOfRange = omega arith
refusal_is_wide refused.RemoveDiffers = omega arith
refusal_is_wide refused.PerspectiveOutOfRange = omega arith
refusal_is_wide refused.UnknownExecution = omega arith
refusal_is_wide refused.Limit = omega arith
refusal_is_wide refused.NothingToStep = omega arith
refusal_is_wide refused.StepHeld = omega arith
refusal_is_wide refused.ProtocolFixed = omega arith
refusal_is_wide refused.BlobTwice = omega arith
refusal_is_wide refused.UnknownBlob = omega arith

pub one_refusal : (x y : Refusal) → decimal (refusal_number x) ≡ decimal (refusal_number y) → x ≡ y
one_refusal x y e =
    let same : Some x ≡ Some y = sym (known x) ∙ ap numbered (decimal_injective _ _ (refusal_is_wide x) (refusal_is_wide y) e) ∙ known y in cc
