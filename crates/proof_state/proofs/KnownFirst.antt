-- What the test of a decision says.
use Rattle.std.proofs.Common.{◌≡◌, ◌⊎◌, true, refl, inl, inr}
use Rattle.proof_state.specs.Same.{is_first}

pub first_is : {P Q : Type 0} (d : P ⊎ Q) → is_first d ≡ true → P
first_is (inl p) e = p
first_is (inr q) e = cc

pub is_first_of : {P : Type 0} (d : P ⊎ (P → ⊥)) → P → is_first d ≡ true
is_first_of (inl p) q = refl
is_first_of (inr none) q = absurd (none q)
