-- What holds whatever comes of a call.
use Rattle.std.proofs.Common.{Result, Ok, Err, OnOk}

-- what holds anyway holds where it goes well
pub on_ok_always : {T E P : Type 0} (r : Result T E) → P → OnOk r P
on_ok_always (Ok value) p = p
on_ok_always (Err error) p = tt

-- and so does what follows from what holds there
pub on_ok_so : {T E : Type 0} (r : Result T E) (P Q : Type 0) → (P → Q) → OnOk r P → OnOk r Q
on_ok_so (Ok value) P Q so p = so p
on_ok_so (Err error) P Q so p = tt
