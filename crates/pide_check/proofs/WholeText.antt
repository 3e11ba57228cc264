-- A text that was read.
use Rattle.std.proofs.Common.{◌≡◌, ℕ, List, Option, subst}
use Rattle.std.specs.Str.{IsUtf8, chars}
use Rattle.std.specs.Io.KnownBytes.{Consumes}
use Rattle.pide_check.specs.declared.input.Input.{Input}
use Rattle.pide_check.specs.declared.input.Input.TheVariants as input
use Rattle.pide_check.specs.Reading.{HadJust, IsRead}

-- it is that of the bytes that were taken
pub whole_read : (answer : Input) (text : List ℕ) (old new : Option (List ℕ)) → answer ≡ input.Whole text → IsRead answer old new
    → (taken : List ℕ) × Consumes old new taken × (HadJust taken new × IsUtf8 taken × (text ≡ chars taken))
whole_read answer text old new is read = subst (λ (a : Input). IsRead a old new) is read
