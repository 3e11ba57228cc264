-- What a search that lends has found.
use Rattle.std.proofs.Common.{◌≡◌, true, false, Option, Some, None, Bor, sym, ap}
use Rattle.std.specs.Prelude.{option_map}
use Rattle.std.proofs.lemmas.Bool.{false≢true}
use Rattle.std.specs.Option.{is_some, option_copied}

-- a search that lends nothing found nothing
pub none_of : {X : Type 0} (r : Option (Bor X)) (o : Option X) → is_some r ≡ false → option_copied r ≡ o → o ≡ None
none_of None o nothing e = sym e
none_of (Some x) o nothing e = absurd (false≢true (sym nothing))

-- and one that lends found something
pub some_of : {X Y : Type 0} (f : X → Y) (r : Option (Bor X)) (o : Option X) → is_some r ≡ true → option_copied r ≡ o → true ≡ is_some (option_map f o)
some_of f None o something e = absurd (false≢true something)
some_of f (Some x) o something e = ap (λ o. is_some (option_map f o)) e
