-- A part at fault is passed on.
use Rattle.std.proofs.Common.{◌≡◌, Option, None, Result, Ok, Err, sym, subst}
use Rattle.std.specs.Result.{IsErrAnd}
use Rattle.message_values.specs.declared.fault.ShapeFault.{ShapeFault}
use Rattle.message_values.specs.declared.fault.ShapeFault.TheVariants.{WrongShape, NoMemory}
use Rattle.message_values.specs.Reads.{Reads}

-- a fault of a part, passed on
pub part_passed : {A B : Type 0} (part : Option A) (found : Option B) (fault : ShapeFault) (r : Result B ShapeFault) → IsErrAnd r (λ shown. shown ≡ fault)
    → Reads {A = A} (Err fault) part → (part ≡ None → found ≡ None) → Reads r found
part_passed part found fault (Ok x) h reads none = absurd h
part_passed part found WrongShape (Err shown) h reads none = subst (λ s. Reads (Err s) found) (sym h) (none reads)
part_passed part found NoMemory (Err shown) h reads none = subst (λ s. Reads (Err s) found) (sym h) tt
