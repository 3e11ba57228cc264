-- What follows from a fact that a test or an answer tells.
use Rattle.std.proofs.Common.{Bool, true, false, Result, Ok, Err}
use Rattle.std.specs.Bool.{OnTrue}
use Rattle.std.specs.Result.{IfOk}

pub along : {P Q : Type 0} (b : Bool) → (P → Q) → OnTrue b P → OnTrue b Q
along true f h = f h
along false f h = tt

pub ok_along : {A E : Type 0} {P Q : A → Type 0} (r : Result A E) → ((a : A) → P a → Q a) → IfOk r P → IfOk r Q
ok_along (Ok made) f told = f made told
ok_along (Err error) f told = tt
