-- What each rule answers, by cases on the shapes of its premises (Gentzen 1935; the faults are this
-- project's own). Of a premise the assumptions stand before the conclusion, `r` is the answer.
use Rattle.std.specs.Prelude.{◌≡◌, ⊤, ℕ, false, List, Result, Ok, Err}
use Rattle.nj_formula.specs.declared.argument.Argument.{Argument}
use Rattle.nj_formula.specs.declared.argument.Argument.TheVariants.{Free}
use Rattle.nj_formula.specs.Statement.{Statement, falsity, neg, conj, disj, implies, every, exists}
use Rattle.nj_formula.specs.Free.{is_free}
use Rattle.nj_formula.specs.Instance.{instance}
use Rattle.nj_kernel.specs.Sets.{members, ◌∪◌, ◌∖◌, Lists, IsFreshIn}
use Rattle.nj_kernel.specs.Theorem.{assumed, shown}
use Rattle.nj_kernel.specs.declared.thm.Thm.{Thm}
use Rattle.nj_kernel.specs.declared.rule.Rule.{Rule}
use Rattle.nj_kernel.specs.declared.rule.Rule.TheVariants as R
use Rattle.nj_kernel.specs.declared.fault.RuleError.{RuleError}
use Rattle.nj_kernel.specs.declared.fault.RuleError.TheVariants.{Fault, NoMemory}

-- a theorem, the first premise that does not fit, or want of memory
abbrev pub Answer : Type 0
Answer = Result Thm RuleError

-- the call makes a theorem of c from these assumptions, unless memory runs out
abbrev pub Makes : Answer → (Statement → Type 0) → Statement → Type 0
Makes (Ok t) P c = Lists (assumed t) P × (shown t ≡ c)
Makes (Err NoMemory) P c = ⊤
Makes (Err (Fault f)) P c = ⊥

-- the premise with this number is the first that does not fit, and the call says so unless memory
-- runs out
abbrev pub Misfits : Answer → Rule → ℕ → Type 0
Misfits (Ok t) rule premise = ⊥
Misfits (Err NoMemory) rule premise = ⊤
Misfits (Err (Fault f)) rule premise = (f.rule ≡ rule) × (f.premise ≡ premise)

-- the first where the condition holds, the second where it fails
abbrev pub Depending : Type 0 → Type 0 → Type 0 → Type 0
Depending P Kept Broken = (P → Kept) × (¬ P → Broken)

-- from A and from B to A & B
abbrev pub ConjI : List Statement → Statement → List Statement → Statement → Answer → Type 0
ConjI s a t b r = Makes r (members s ∪ members t) (conj a b)

-- from A & B to A
abbrev pub ConjE1 : List Statement → Statement → Answer → Type 0
ConjE1 s (conj a b) r = Makes r (members s) a
ConjE1 s _ r = Misfits r R.ConjE1 1

-- from A & B to B
abbrev pub ConjE2 : List Statement → Statement → Answer → Type 0
ConjE2 s (conj a b) r = Makes r (members s) b
ConjE2 s _ r = Misfits r R.ConjE2 1

-- from A to A | B, where B is the other part
abbrev pub DisjI1 : List Statement → Statement → Statement → Answer → Type 0
DisjI1 s a other r = Makes r (members s) (disj a other)

-- from B to A | B, where A is the other part
abbrev pub DisjI2 : List Statement → Statement → Statement → Answer → Type 0
DisjI2 s b other r = Makes r (members s) (disj other b)

-- from A | B, from C with A assumed and from C with B assumed, to C; both cases have one conclusion
abbrev pub DisjE : List Statement → Statement → List Statement → Statement
    → List Statement → Statement → Answer → Type 0
DisjE s (disj a b) t c u d r =
    Depending (c ≡ d)
    (Makes r (members s ∪ (members t ∖ a) ∪ (members u ∖ b)) c) (Misfits r R.DisjE 3)
DisjE s _ t c u d r = Misfits r R.DisjE 1

-- from B, with A assumed, to A --> B
abbrev pub ImpI : Statement → List Statement → Statement → Answer → Type 0
ImpI a s b r = Makes r (members s ∖ a) (implies a b)

-- from A --> B and from A to B
abbrev pub ImpE : List Statement → Statement → List Statement → Statement → Answer → Type 0
ImpE s (implies a b) t c r =
    Depending (a ≡ c) (Makes r (members s ∪ members t) b) (Misfits r R.ImpE 2)
ImpE s _ t c r = Misfits r R.ImpE 1

-- from False, with A assumed, to ~A
abbrev pub NotI : Statement → List Statement → Statement → Answer → Type 0
NotI a s falsity r = Makes r (members s ∖ a) (neg a)
NotI a s _ r = Misfits r R.NotI 1

-- from ~A and from A to False
abbrev pub NotE : List Statement → Statement → List Statement → Statement → Answer → Type 0
NotE s (neg a) t c r =
    Depending (a ≡ c) (Makes r (members s ∪ members t) falsity) (Misfits r R.NotE 2)
NotE s _ t c r = Misfits r R.NotE 1

-- from False to any C
abbrev pub FalseE : List Statement → Statement → Statement → Answer → Type 0
FalseE s falsity c r = Makes r (members s) c
FalseE s _ c r = Misfits r R.FalseE 1

-- from P[x] to ALL y. P[y], where x is free neither in the body P nor in the assumptions
abbrev pub AllI : List ℕ → List Statement → Statement → Statement → Answer → Type 0
AllI x s a (every p) r =
    Depending ((a ≡ instance (Free x) p) × (is_free x p ≡ false) × IsFreshIn x (members s))
    (Makes r (members s) (every p)) (Misfits r R.AllI 1)
AllI x s a _ r = Misfits r R.AllI 1

-- from ALL y. P[y] to P[t]
abbrev pub AllE : List Statement → Statement → Argument → Answer → Type 0
AllE s (every p) t r = Makes r (members s) (instance t p)
AllE s _ t r = Misfits r R.AllE 1

-- from P[t] to EX y. P[y]
abbrev pub ExI : Argument → List Statement → Statement → Statement → Answer → Type 0
ExI t s a (exists p) r =
    Depending (a ≡ instance t p) (Makes r (members s) (exists p)) (Misfits r R.ExI 1)
ExI t s a _ r = Misfits r R.ExI 1

-- from EX y. P[y] and from C, with P[x] assumed, to C, where x is free neither in the body P, nor
-- in C, nor in the assumptions that remain of the second premise
abbrev pub ExE : List ℕ → List Statement → Statement → List Statement → Statement → Answer → Type 0
ExE x s (exists p) t c r =
    Depending ((is_free x p ≡ false) × (is_free x c ≡ false)
    × IsFreshIn x (members t ∖ instance (Free x) p))
    (Makes r (members s ∪ (members t ∖ instance (Free x) p)) c) (Misfits r R.ExE 2)
ExE x s _ t c r = Misfits r R.ExE 1
