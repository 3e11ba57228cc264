-- What is refused is not there.
use Rattle.std.proofs.Common.{◌≡◌, Option, Some, None, Ok}
use Rattle.message_values.specs.declared.refusal.Refusal.{Refusal}
use Rattle.message_values.specs.Asked.{or_refused}

-- what isn't refused is there
pub not_refused : {A : Type 0} (reason : Refusal) (o : Option A) (x : A) → or_refused reason o ≡ Ok x → o ≡ Some x
not_refused reason None x e = absurd (cc)
not_refused reason (Some y) x e = cc
