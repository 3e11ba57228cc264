-- A test has one answer.
use Rattle.std.proofs.Common.{◌≡◌, Bool, true, false}

pub contradiction : {A : Type 0} {b : Bool} → b ≡ true → b ≡ false → A
contradiction p q = cc
