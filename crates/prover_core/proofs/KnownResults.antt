-- What holds by how something went.
use Rattle.std.proofs.Common.{◌≡◌, false, subst}
use Rattle.std.specs.Prelude.{Result, Ok, Err, IfOk, OnOk, OnErr}
use Rattle.std.specs.Result.{is_err}

-- what holds where all went well
pub on_ok : {T E : Type 0} (r : Result T E) (P : Type 0) → is_err r ≡ false → OnOk r P → P
on_ok (Ok x) P well so = so
on_ok (Err x) P well so = absurd (cc)

-- what holds anyway holds where something failed
pub on_err : {T E : Type 0} (r : Result T E) {P : Type 0} → P → OnErr r P
on_err (Ok x) so = tt
on_err (Err x) so = so

-- what holds where a value was made holds of what was made
pub when_ok : {T E : Type 0} {r : Result T E} {x : T} {P : Type 0} → r ≡ Ok x → OnOk r P → P
when_ok {T} {E} {r} {x} {P} is so = subst (λ (o : Result T E). OnOk o P) is so

pub when_made : {T E : Type 0} {r : Result T E} {x : T} (P : T → Type 0) → r ≡ Ok x → IfOk r P → P x
when_made {T} {E} {r} {x} P is so = subst (λ (o : Result T E). IfOk o P) is so
