-- What was told in other words.
use Rattle.std.proofs.Common.{◌≡◌, ℕ, List, Result, Ok, Err, ◌∙◌}
use Rattle.std.specs.Prelude.{IfOk}

pub told_as : {V E : Type 0} (r : Result V E) (of : V → List ℕ) (one other : List ℕ) → one ≡ other
    → IfOk r (λ bytes. of bytes ≡ one) → IfOk r (λ bytes. of bytes ≡ other)
told_as (Ok bytes) of one other same is = is ∙ same
told_as (Err failed) of one other same is = tt
