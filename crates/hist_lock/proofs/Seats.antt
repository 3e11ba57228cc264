-- Seats, and how many of them have a ticket.
use Rattle.std.proofs.Common.{◌≡◌, ◌≢◌, ℕ, zero, suc, ◌+◌, ◌<◌, ◌≤◌, List, [], ◌∷◌, length, set, sym, ap, ◌∙◌, subst, ⊎_elim, arith}
use mathlib.Core.Option.{some, some-injective, some-ne-none}
use lib.ListN.{get_elem?}
use Rattle.atomic_table.proofs.Lists.{at_set}
use Rattle.hist_lock.specs.declared.view.Doing.{Doing}
use Rattle.hist_lock.specs.declared.view.Stage.{Stage}
use Rattle.hist_lock.specs.declared.view.Stage.TheVariants.{Idle, Waits, Holds, Spent}
use Rattle.hist_lock.specs.Rule.{ticket, tickets}

pub at_inside : {A : Type 0} (l : List A) (i : ℕ) (a : A) → get_elem? l i ≡ some a → i < length l
at_inside [] i a e = absurd (some-ne-none a (sym e))
at_inside (x ∷ xs) zero a e = omega arith
at_inside (x ∷ xs) (suc i) a e = let h = at_inside xs i a e in omega arith

-- a place of a list has one element
pub at_same : {A : Type 0} (l : List A) (i j : ℕ) (a b : A) → i ≡ j → get_elem? l i ≡ some a → get_elem? l j ≡ some b → a ≡ b
at_same l i j a b e p q = some-injective a b (sym p ∙ (ap (get_elem? l) e ∙ q))

-- what holds of each seat, where one seat changes
pub stays : {A : Type 0} (K : ℕ → A → Type 0) (vs : List A) (id : ℕ) (w : A) → K id w → ((j : ℕ) (d : A) → j ≢ id → get_elem? vs j ≡ some d → K j d)
    → (j : ℕ) (d : A) → get_elem? (set vs id w) j ≡ some d → K j d
stays {A} K vs id w mine others j d e = ⊎_elim (λ (t : (j ≡ id) × (w ≡ d)). subst (λ (x : ℕ × A). K x.0 x.1) (λ i. (sym t.0 i, t.1 i)) mine)
    (λ (t : (j ≢ id) × (get_elem? vs j ≡ some d)). others j d t.0 t.1) (at_set vs id j w d e)

pub ticket_le : (st : Stage) → ticket st ≤ 1
ticket_le Idle = omega arith
ticket_le (Waits t) = omega arith
ticket_le (Holds t) = omega arith
ticket_le Spent = omega arith

module _ {E : Type 0} where
  pub tickets_le : (vs : List (Doing E)) → tickets vs ≤ length vs
  tickets_le [] = omega arith
  tickets_le (v ∷ vs) = omega (arith, ticket_le v.stage, tickets_le vs)

  -- the tickets after one seat changes
  pub tickets_set : (vs : List (Doing E)) (id : ℕ) (d w : Doing E) → get_elem? vs id ≡ some d → tickets (set vs id w) + ticket d.stage ≡ tickets vs + ticket w.stage
  tickets_set [] id d w e = absurd (some-ne-none d (sym e))
  tickets_set (v ∷ vs) zero d w e = let h : ticket v.stage ≡ ticket d.stage = ap (λ (x : Doing E). ticket x.stage) (some-injective v d e) in omega arith
  tickets_set (v ∷ vs) (suc id) d w e = omega (arith, tickets_set vs id d w e)
