-- Natural deduction, NJ: which statement follows from which set of assumptions (Gentzen 1935).
use Rattle.std.specs.Prelude.{◌≡◌, ℕ, false, IsTrue, List, [], ◌∷◌}
use Rattle.nj_formula.specs.declared.argument.Argument.{Argument}
use Rattle.nj_formula.specs.declared.argument.Argument.TheVariants.{Free}
use Rattle.nj_formula.specs.Statement.{Statement, falsity, neg, conj, disj, implies, every, exists}
use Rattle.nj_formula.specs.Free.{is_free}
use Rattle.nj_formula.specs.Closed.{is_closed}
use Rattle.nj_formula.specs.Instance.{instance}
use Rattle.nj_kernel.specs.Sets.{members, ◌∪◌, ◌∖◌, Lists, IsFreshIn}

-- the least relation with one clause per rule; a rule discharges an assumption whether it is there
-- or not
pub data Nj : List Statement → Statement → Type 0 where
  assume : {a : Statement} → Nj (a ∷ []) a
  -- a set may be listed in any order, and with repetitions
  same_set : {s t : List Statement} {a : Statement} → Lists t (members s) → Nj s a → Nj t a
  conj_i : {s t u : List Statement} {a b : Statement} → Lists u (members s ∪ members t)
      → Nj s a → Nj t b → Nj u (conj a b)
  conj_e1 : {s : List Statement} {a b : Statement} → Nj s (conj a b) → Nj s a
  conj_e2 : {s : List Statement} {a b : Statement} → Nj s (conj a b) → Nj s b
  disj_i1 : {s : List Statement} {a b : Statement} → Nj s a → Nj s (disj a b)
  disj_i2 : {s : List Statement} {a b : Statement} → Nj s b → Nj s (disj a b)
  disj_e : {s t u v : List Statement} {a b c : Statement}
      → Lists v (members s ∪ (members t ∖ a) ∪ (members u ∖ b))
      → Nj s (disj a b) → Nj t c → Nj u c → Nj v c
  imp_i : {s t : List Statement} {a b : Statement} → Lists t (members s ∖ a)
      → Nj s b → Nj t (implies a b)
  imp_e : {s t u : List Statement} {a b : Statement} → Lists u (members s ∪ members t)
      → Nj s (implies a b) → Nj t a → Nj u b
  not_i : {s t : List Statement} {a : Statement} → Lists t (members s ∖ a)
      → Nj s falsity → Nj t (neg a)
  not_e : {s t u : List Statement} {a : Statement} → Lists u (members s ∪ members t)
      → Nj s (neg a) → Nj t a → Nj u falsity
  false_e : {s : List Statement} {c : Statement} → Nj s falsity → Nj s c
  all_i : {s : List Statement} (x : List ℕ) {p : Statement}
      → is_free x p ≡ false → IsFreshIn x (members s)
      → Nj s (instance (Free x) p) → Nj s (every p)
  all_e : {s : List Statement} (t : Argument) (p : Statement) → IsTrue (is_closed t)
      → Nj s (every p) → Nj s (instance t p)
  ex_i : {s : List Statement} (t : Argument) {p : Statement} → IsTrue (is_closed t)
      → Nj s (instance t p) → Nj s (exists p)
  ex_e : {s t u : List Statement} (x : List ℕ) (p : Statement) {c : Statement}
      → Lists u (members s ∪ (members t ∖ instance (Free x) p))
      → is_free x p ≡ false → is_free x c ≡ false → IsFreshIn x (members t ∖ instance (Free x) p)
      → Nj s (exists p) → Nj t c → Nj u c
