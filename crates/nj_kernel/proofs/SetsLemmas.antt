-- Lists of sets.
use Rattle.std.proofs.Common.{◌≡◌, ◌≤◌, ℕ, List, [], length, map, drop, sym, subst, inl, inr, ⊎_elim}
use Rattle.std.proofs.lemmas.List.{drop_all}
use Rattle.nj_formula.specs.declared.formula.Formula.{Formula}
use Rattle.nj_formula.specs.Statement.{Statement}
use Rattle.nj_formula.specs.Meaning.{meaning}
use Rattle.nj_kernel.specs.Sets.{members, Lists, ◌∪◌, IsFreshIn}

-- a name is free in nothing where nothing is left
pub fresh_in_none : (x : List ℕ) (t : List Formula) (i : ℕ) → length t ≤ i → IsFreshIn x (members (map meaning (drop i t)))
fresh_in_none x t i past =
    let none : drop i t ≡ [] = drop_all i t past in
    subst (λ l. IsFreshIn x (members (map meaning l))) (sym none) (λ f m. elim m [ ])

pub Lists-itself : (s : List Statement) → Lists s (members s)
Lists-itself s f = (λ m. m, λ m. m)

pub Lists-same : {s t : List Statement} → s ≡ t → Lists s (members t)
Lists-same {s} {t} e = subst (λ u. Lists u (members t)) (sym e) (Lists-itself t)

pub Lists-along : {s t : List Statement} {P : Statement → Type 0} → s ≡ t → Lists t P → Lists s P
Lists-along {P = P} e l = subst (λ u. Lists u P) (sym e) l

-- each part of a union may be what its list lists
pub Lists-either : (s t u : List Statement) {P Q : Statement → Type 0} → Lists u (members s ∪ members t) → Lists s P → Lists t Q → Lists u (P ∪ Q)
Lists-either s t u all p q f = (
  λ m. ⊎_elim (λ x. inl ((p f).0 x)) (λ x. inr ((q f).0 x)) ((all f).0 m),
  λ m. (all f).1 (⊎_elim (λ x. inl ((p f).1 x)) (λ x. inr ((q f).1 x)) m),
)
