-- Lists of sets.
use Rattle.std.proofs.Common.{◌⊎◌, ◌↔◌, List, ◌++◌, inl, inr, ⊎_elim}
use Rattle.nj_formula.specs.Statement.{Statement}
use Rattle.nj_kernel.specs.Sets.{members, ◌∪◌, ◌∖◌, Lists}
use Rattle.proof_state.proofs.KnownSets.{in_left, in_right, in_either}
use Rattle.proof_checks.specs.Statements.{without}
use Rattle.proof_checks.proofs.KnownStatements.{lists_without}

-- two sets have the same members
abbrev pub Same : (Statement → Type 0) → (Statement → Type 0) → Type 0
Same P Q = (f : Statement) → P f ↔ Q f

pub along : (s : List Statement) {P Q : Statement → Type 0} → Lists s P → Same P Q → Lists s Q
along s lists same f = (λ m. (same f).0 ((lists f).0 m), λ q. (lists f).1 ((same f).1 q))

pub both : {P Q R : Statement → Type 0} → Same P Q → Same Q R → Same P R
both one two f = (λ p. (two f).0 ((one f).0 p), λ r. (one f).1 ((two f).1 r))

-- either set is what its list lists
pub joined : {P Q : Statement → Type 0} (s t : List Statement) → Same P (members s) → Same Q (members t) → Same (P ∪ Q) (members (s ++ t))
joined s t p q f = (
  λ m. ⊎_elim (λ x. in_left s t f ((p f).0 x)) (λ x. in_right s t f ((q f).0 x)) m,
  λ m. ⊎_elim (λ x. inl ((p f).1 x)) (λ x. inr ((q f).1 x)) (in_either s t f m),
)

-- a discharged statement is left out of the list
pub left_out : {P : Statement → Type 0} (a : Statement) (s : List Statement) → Same P (members s) → Same (P ∖ a) (members (without a s))
left_out a s p f = (
  λ m. (lists_without a s f).1 ((p f).0 m.0, m.1),
  λ m. let kept = (lists_without a s f).0 m in ((p f).1 kept.0, kept.1),
)
