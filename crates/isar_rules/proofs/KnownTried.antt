-- What comes of a try, where it comes to something.
use Rattle.std.proofs.Common.{Ok, Err}
use Rattle.std.specs.Bool.{⊤}
use Rattle.isar_rules.specs.Errors.{Tried, and_then}

-- what comes of it has this
abbrev pub IfTried : {A : Type 0} → (A → Type 0) → Tried A → Type 0
IfTried P (Ok a) = P a
IfTried P (Err text) = ⊤

-- of one behind the other
pub chained : {A B : Type 0} (P : A → Type 0) (Q : B → Type 0) (t : Tried A) (next : A → Tried B) → IfTried P t → ((a : A) → P a → IfTried Q (next a)) → IfTried Q (and_then t next)
chained P Q (Ok a) next p each = each a p
chained P Q (Err text) next p each = tt

pub always : {A : Type 0} (t : Tried A) → IfTried (λ _. ⊤) t
always (Ok a) = tt
always (Err text) = tt
