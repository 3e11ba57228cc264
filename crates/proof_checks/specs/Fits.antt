-- Premises that fit a rule, by what they show and what it is to conclude (Gentzen 1935).
use Rattle.std.specs.Prelude.{◌≡◌, ◌<◌, ⊤, ℕ, List, Option, Some, None, IsTrue}
use Rattle.nj_formula.specs.declared.argument.Argument.TheVariants.{Free}
use Rattle.nj_formula.specs.Closed.{is_closed}
use Rattle.nj_formula.specs.Instance.{instance}
use Rattle.nj_formula.specs.Meaning.{meaning}
use Rattle.nj_formula.specs.Statement.{Statement, falsity, neg, conj, disj, implies, every, exists}
use Rattle.theory_ctx.specs.declared.local.Local.{Local}
use Rattle.proof_checks.specs.declared.step.Step.{Step}
use Rattle.proof_checks.specs.declared.step.Step.TheVariants.{Cited, One, Two, Three}
use Rattle.proof_checks.specs.declared.step.Unary.{Unary}
use Rattle.proof_checks.specs.declared.step.Unary.TheVariants.{ConjE1, ConjE2, DisjI1, DisjI2}
use Rattle.proof_checks.specs.declared.step.Unary.TheVariants.{ImpI, NotI}
use Rattle.proof_checks.specs.declared.step.Unary.TheVariants.{FalseE, AllI, AllE, ExI}
use Rattle.proof_checks.specs.declared.step.Binary.{Binary}
use Rattle.proof_checks.specs.declared.step.Binary.TheVariants.{ConjI, ImpE, NotE, ExE}

-- the premise shows p, perhaps by an assumption of its own, and g is to be concluded
unfoldable pub FitsOne : Unary → Option Local → Statement → Statement → Type 0
FitsOne ConjE1 None p g = (b : Statement) × (p ≡ conj g b)
FitsOne ConjE2 None p g = (a : Statement) × (p ≡ conj a g)
FitsOne (DisjI1 b) None p g = g ≡ disj p (meaning b)
FitsOne (DisjI2 a) None p g = g ≡ disj (meaning a) p
FitsOne (ImpI a) (Some own) p g = (own.formula ≡ a) × (g ≡ implies (meaning a) p)
FitsOne (NotI a) (Some own) p g = (own.formula ≡ a) × (p ≡ falsity) × (g ≡ neg (meaning a))
FitsOne FalseE None p g = p ≡ falsity
FitsOne (AllI x) None p g =
    (body : Statement) × (p ≡ instance (Free x) body) × (g ≡ every body)
FitsOne (AllE s) None p g =
    (body : Statement) × (p ≡ every body) × (g ≡ instance s body) × IsTrue (is_closed s)
FitsOne (ExI s) None p g =
    (body : Statement) × (p ≡ instance s body) × (g ≡ exists body) × IsTrue (is_closed s)
FitsOne _ _ p g = ⊥

-- the premises show p and q
unfoldable pub FitsTwo : Binary → Option Local → Option Local
    → Statement → Statement → Statement → Type 0
FitsTwo ConjI None None p q g = g ≡ conj p q
FitsTwo ImpE None None p q g = p ≡ implies q g
FitsTwo NotE None None p q g = (p ≡ neg q) × (g ≡ falsity)
FitsTwo (ExE x) None (Some own) p q g =
    (body : Statement) × (p ≡ exists body)
    × (meaning own.formula ≡ instance (Free x) body) × (q ≡ g)
FitsTwo _ _ _ p q g = ⊥

-- the premises of disjE show p, q and r
unfoldable pub FitsThree : Option Local → Option Local → Option Local
    → Statement → Statement → Statement → Statement → Type 0
FitsThree None (Some left) (Some right) p q r g =
    (p ≡ disj (meaning left.formula) (meaning right.formula)) × (q ≡ g) × (r ≡ g)
FitsThree _ _ _ p q r g = ⊥

-- the parts fit what is to be concluded
unfoldable pub Fits : Step → Statement → Type 0
Fits (Cited c) g = ⊤
Fits (One rule p) g = FitsOne rule p.own (meaning p.goal) g
Fits (Two rule p q) g = FitsTwo rule p.own q.own (meaning p.goal) (meaning q.goal) g
Fits (Three p q r) g =
    FitsThree p.own q.own r.own (meaning p.goal) (meaning q.goal) (meaning r.goal) g

-- a rule that is left to be taken is one of these many
abbrev pub IsWithin : Step → ℕ → Type 0
IsWithin (Cited c) left = ⊤
IsWithin _ left = 0 < left

-- the name that a rule asks to be fresh
unfoldable pub fresh_one : Unary → Option (List ℕ)
fresh_one (AllI x) = Some x
fresh_one _ = None

unfoldable pub fresh_two : Binary → Option (List ℕ)
fresh_two (ExE x) = Some x
fresh_two _ = None
