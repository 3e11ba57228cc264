-- What the kernel's rules answer to a rule's premises, and what is made of it.
use Rattle.std.specs.Prelude.{◌≡◌, ⊤, ℕ, List, Option, Some, None, Result, Ok, Err}
use Rattle.nj_formula.specs.Meaning.{meaning}
use Rattle.nj_formula.specs.Statement.{Statement}
use Rattle.nj_kernel.specs.declared.fault.RuleError.TheVariants as E
use Rattle.nj_kernel.specs.declared.thm.Thm.{Thm}
use Rattle.nj_kernel.specs.Rules.{Answer}
use Rattle.nj_kernel.specs.Rules as K
use Rattle.proof_terms.specs.declared.fault.TermFault.TheVariants.{NotFresh}
use Rattle.proof_checks.specs.declared.halt.Halt.{Halt}
use Rattle.proof_checks.specs.declared.halt.Halt.TheVariants.{Wrong, NoMemory}
use Rattle.proof_checks.specs.declared.step.Unary.{Unary}
use Rattle.proof_checks.specs.declared.step.Unary.TheVariants as U
use Rattle.proof_checks.specs.declared.step.Binary.{Binary}
use Rattle.proof_checks.specs.declared.step.Binary.TheVariants as B

-- the answer to a premise that assumes s and shows p, where g is to be concluded
unfoldable pub OneAnswers : Unary → List Statement → Statement → Statement → Answer → Type 0
OneAnswers U.ConjE1 s p g r = K.ConjE1 s p r
OneAnswers U.ConjE2 s p g r = K.ConjE2 s p r
OneAnswers (U.DisjI1 b) s p g r = K.DisjI1 s p (meaning b) r
OneAnswers (U.DisjI2 a) s p g r = K.DisjI2 s p (meaning a) r
OneAnswers (U.ImpI a) s p g r = K.ImpI (meaning a) s p r
OneAnswers (U.NotI a) s p g r = K.NotI (meaning a) s p r
OneAnswers U.FalseE s p g r = K.FalseE s p g r
OneAnswers (U.AllI x) s p g r = K.AllI x s p g r
OneAnswers (U.AllE t) s p g r = K.AllE s p t r
OneAnswers (U.ExI t) s p g r = K.ExI t s p g r

-- the answer to premises that assume s and t, and show p and q
unfoldable pub TwoAnswers : Binary → List Statement → Statement → List Statement → Statement
    → Answer → Type 0
TwoAnswers B.ConjI s p t q r = K.ConjI s p t q r
TwoAnswers B.ImpE s p t q r = K.ImpE s p t q r
TwoAnswers B.NotE s p t q r = K.NotE s p t q r
TwoAnswers (B.ExE x) s p t q r = K.ExE x s p t q r

-- a premise is refused only for a name that is to be fresh
abbrev pub IsFit : Option (List ℕ) → Answer → Type 0
IsFit None (Err (E.Fault f)) = ⊥
IsFit x r = ⊤

-- what becomes of the kernel's answer: a refused premise is the fault of that name
abbrev pub Settles : Option (List ℕ) → Answer → Result Thm Halt → Type 0
Settles x (Ok t) (Ok u) = t ≡ u
Settles (Some x) (Err (E.Fault f)) (Err (Wrong fault)) = fault ≡ NotFresh x
Settles x r (Err NoMemory) = ⊤
Settles x r result = ⊥
