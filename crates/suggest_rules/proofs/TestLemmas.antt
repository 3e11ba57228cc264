-- Tests of small statements, computed.
use Rattle.std.proofs.Common.{◌≡◌, ◌⊎◌, ℕ, Bool, true, false, List, [], codes, bytes_eq, refl, ap, sym, inl, inr}
use Rattle.std.proofs.lemmas.Bool.{both_ways}
use Rattle.nj_formula.specs.declared.argument.Argument.{Argument}
use Rattle.nj_formula.specs.Statement.{Statement, atom, conj, implies}
use Rattle.proof_state.specs.Same.{decide, is_first}
use Rattle.proof_state.proofs.KnownFirst.{is_first_of}

differs : {P : Type 0} (d : P ⊎ (P → ⊥)) → (P → ⊥) → is_first d ≡ false
differs (inl p) none = absurd (none p)
differs (inr q) none = refl

pub itself : (s : Statement) → is_first (decide s s) ≡ true
itself s = is_first_of (decide s s) refl

pub conj_atom : (a b : Statement) (x : List ℕ) (xs : List Argument) → is_first (decide (conj a b) (atom x xs)) ≡ false
conj_atom a b x xs = differs (decide (conj a b) (atom x xs)) (λ e. cc)

pub atom_conj : (x : List ℕ) (xs : List Argument) (a b : Statement) → is_first (decide (atom x xs) (conj a b)) ≡ false
atom_conj x xs a b = differs (decide (atom x xs) (conj a b)) (λ e. cc)

pub implies_atom : (a b : Statement) (x : List ℕ) (xs : List Argument) → is_first (decide (implies a b) (atom x xs)) ≡ false
implies_atom a b x xs = differs (decide (implies a b) (atom x xs)) (λ e. cc)

pub atom_implies : (x : List ℕ) (xs : List Argument) (a b : Statement) → is_first (decide (atom x xs) (implies a b)) ≡ false
atom_implies x xs a b = differs (decide (atom x xs) (implies a b)) (λ e. cc)

abbrev p : Statement
p = atom (codes "P") []

abbrev q : Statement
q = atom (codes "Q") []

abbrev is_p : Statement → Bool
is_p (atom x xs) = bytes_eq x (codes "P")
is_p _ = false

p_not_q : p ≡ q → ⊥
p_not_q e = both_ways (is_p q) refl (sym (ap is_p e))

pub p_q : is_first (decide (atom (codes "P") []) (atom (codes "Q") [])) ≡ false
p_q = differs (decide p q) p_not_q

pub swapped : is_first (decide (conj (atom (codes "P") []) (atom (codes "Q") [])) (conj (atom (codes "Q") []) (atom (codes "P") []))) ≡ false
swapped = differs (decide (conj p q) (conj q p)) (λ e. p_not_q (first e))
  where
    first : conj p q ≡ conj q p → p ≡ q
    first e = cc

pub nested : (a b c : Statement) (x : List ℕ) (xs : List Argument) → is_first (decide (implies (implies a b) c) (implies (atom x xs) b)) ≡ false
nested a b c x xs = differs (decide (implies (implies a b) c) (implies (atom x xs) b)) (λ e. cc)
