-- Each rule of the kernel makes the goal of premises that fit.
use Rattle.std.proofs.Common.{◌≡◌, ℕ, false, List, ◌∷◌, Option, Some, None, Result, refl, sym, subst}
use Rattle.nj_formula.specs.declared.argument.Argument.TheVariants.{Free}
use Rattle.nj_formula.specs.Free.{is_free}
use Rattle.nj_formula.specs.Instance.{instance}
use Rattle.nj_formula.specs.Meaning.{meaning}
use Rattle.nj_formula.specs.Statement.{Statement, every}
use Rattle.nj_kernel.specs.declared.rule.Rule.TheVariants as R
use Rattle.nj_kernel.specs.declared.thm.Thm.{Thm}
use Rattle.nj_kernel.specs.Rules.{Answer, Makes}
use Rattle.nj_kernel.specs.Rules as K
use Rattle.nj_kernel.specs.Sets.{members, ◌∖◌, Lists, IsFreshIn}
use Rattle.theory_ctx.specs.declared.local.Local.{Local}
use Rattle.proof_checks.specs.declared.halt.Halt.{Halt}
use Rattle.proof_checks.specs.declared.step.Unary.{Unary}
use Rattle.proof_checks.specs.declared.step.Unary.TheVariants.{ConjE1, ConjE2, DisjI1, DisjI2, ImpI, NotI, FalseE, AllI, AllE, ExI}
use Rattle.proof_checks.specs.Answers.{Gives}
use Rattle.proof_checks.specs.Checks.{by_one, if_fresh}
use Rattle.proof_checks.specs.Fits.{FitsOne, fresh_one}
use Rattle.proof_checks.specs.Kernel.{OneAnswers, IsFit, Settles}
use Rattle.proof_checks.specs.Scopes.{remaining}
use Rattle.proof_checks.proofs.SetLemmas.{Same, left_out}
use Rattle.proof_checks.proofs.SettleLemmas.{fit_made, made, depending}
use Rattle.proof_checks.proofs.KnownStatements.{fresh_among, among_fresh, first_fresh, more_fresh}

-- what is left of a premise's assumptions
abbrev pub Left : Option Local → List Statement → Statement → Type 0
Left None a = members a
Left (Some own) a = members a ∖ meaning own.formula

pub left_same : (own : Option Local) (a s : List Statement) → Lists a (members s) → Same (Left own a) (members (remaining own s))
left_same None a s l = l
left_same (Some own) a s l = left_out (meaning own.formula) s l

one_made : (rule : Unary) (own : Option Local) (a : List Statement) (p g : Statement) (r : Answer)
    → FitsOne rule own p g → OneAnswers rule a p g r → fresh_one rule ≡ None → Makes r (Left own a) g
unfolding FitsOne OneAnswers fresh_one
one_made ConjE1 None a p g r fits answer e = subst (λ q. K.ConjE1 a q r) fits.1 answer
one_made ConjE1 (Some own) a p g r fits answer e = absurd fits
one_made ConjE2 None a p g r fits answer e = subst (λ q. K.ConjE2 a q r) fits.1 answer
one_made ConjE2 (Some own) a p g r fits answer e = absurd fits
one_made (DisjI1 b) None a p g r fits answer e = subst (λ c. Makes r (members a) c) (sym fits) answer
one_made (DisjI1 b) (Some own) a p g r fits answer e = absurd fits
one_made (DisjI2 b) None a p g r fits answer e = subst (λ c. Makes r (members a) c) (sym fits) answer
one_made (DisjI2 b) (Some own) a p g r fits answer e = absurd fits
one_made (ImpI h) None a p g r fits answer e = absurd fits
one_made (ImpI h) (Some own) a p g r fits answer e =
    subst (λ k. Makes r (members a ∖ meaning k) g) (sym fits.0) (subst (λ c. Makes r (members a ∖ meaning h) c) (sym fits.1) answer)
one_made (NotI h) None a p g r fits answer e = absurd fits
one_made (NotI h) (Some own) a p g r fits answer e =
    subst (λ k. Makes r (members a ∖ meaning k) g) (sym fits.0) (subst (λ c. Makes r (members a ∖ meaning h) c) (sym fits.2) (subst (λ q. K.NotI (meaning h) a q r) fits.1 answer))
one_made FalseE None a p g r fits answer e = subst (λ q. K.FalseE a q g r) fits answer
one_made FalseE (Some own) a p g r fits answer e = absurd fits
one_made (AllI x) own a p g r fits answer e = cc
one_made (AllE t) None a p g r fits answer e =
    subst (λ c. Makes r (members a) c) (sym fits.2) (subst (λ q. K.AllE a q t r) fits.1 answer)
one_made (AllE t) (Some own) a p g r fits answer e = absurd fits
one_made (ExI t) None a p g r fits answer e =
    subst (λ c. Makes r (members a) c) (sym fits.2) ((subst (λ c. K.ExI t a p c r) fits.2 answer).0 fits.1)
one_made (ExI t) (Some own) a p g r fits answer e = absurd fits

all_i_gives : (x : List ℕ) (a : List Statement) (p body : Statement) (r : Answer) (result : Result Thm Halt) (s : List Statement)
    → p ≡ instance (Free x) body → K.AllI x a p (every body) r → Settles (Some x) r result → Lists a (members s)
    → Gives result (if_fresh x (every body ∷ s) s) (every body)
all_i_gives x a p body r result s is answer settled l =
    depending x (every body ∷ s) s r result (members a) (every body) R.AllI 1 ((p ≡ instance (Free x) body) × (is_free x body ≡ false) × IsFreshIn x (members a))
    (λ e. let parts = first_fresh x (every body) s e in (is, parts.0, λ f m. fresh_among x s parts.1 f ((l f).0 m)))
    (λ holds. more_fresh x (every body) s holds.1 (among_fresh x s (λ f m. holds.2 f ((l f).1 m))))
    answer settled l

module _ (own : Option Local) (a : List Statement) (p g : Statement) (r : Answer) where
  pub one_fit : (rule : Unary) → FitsOne rule own p g → OneAnswers rule a p g r → IsFit (fresh_one rule) r
  unfolding fresh_one
  one_fit ConjE1 fits answer = fit_made None r (Left own a) g (one_made ConjE1 own a p g r fits answer refl)
  one_fit ConjE2 fits answer = fit_made None r (Left own a) g (one_made ConjE2 own a p g r fits answer refl)
  one_fit (DisjI1 b) fits answer = fit_made None r (Left own a) g (one_made (DisjI1 b) own a p g r fits answer refl)
  one_fit (DisjI2 b) fits answer = fit_made None r (Left own a) g (one_made (DisjI2 b) own a p g r fits answer refl)
  one_fit (ImpI h) fits answer = fit_made None r (Left own a) g (one_made (ImpI h) own a p g r fits answer refl)
  one_fit (NotI h) fits answer = fit_made None r (Left own a) g (one_made (NotI h) own a p g r fits answer refl)
  one_fit FalseE fits answer = fit_made None r (Left own a) g (one_made FalseE own a p g r fits answer refl)
  one_fit (AllI x) fits answer = tt
  one_fit (AllE t) fits answer = fit_made None r (Left own a) g (one_made (AllE t) own a p g r fits answer refl)
  one_fit (ExI t) fits answer = fit_made None r (Left own a) g (one_made (ExI t) own a p g r fits answer refl)

  fresh_gives : (x : List ℕ) (o : Option Local) (result : Result Thm Halt) (s : List Statement) → FitsOne (AllI x) o p g → K.AllI x a p g r
      → Settles (Some x) r result → Lists a (members s) → Gives result (if_fresh x (g ∷ remaining o s) (remaining o s)) g
  unfolding FitsOne
  fresh_gives x None result s fits answer settled l =
      subst (λ c. Gives result (if_fresh x (c ∷ s) s) c) (sym fits.2) (all_i_gives x a p fits.0 r result s fits.1 (subst (λ c. K.AllI x a p c r) fits.2 answer) settled l)
  fresh_gives x (Some o) result s fits answer settled l = absurd fits

  pub one_gives : (rule : Unary) (result : Result Thm Halt) (s : List Statement) → FitsOne rule own p g → OneAnswers rule a p g r
      → Settles (fresh_one rule) r result → Lists a (members s) → Gives result (by_one rule g (remaining own s)) g
  unfolding by_one fresh_one OneAnswers
  one_gives ConjE1 result s fits answer settled l = made None r result (Left own a) g (remaining own s) (one_made ConjE1 own a p g r fits answer refl) settled (left_same own a s l)
  one_gives ConjE2 result s fits answer settled l = made None r result (Left own a) g (remaining own s) (one_made ConjE2 own a p g r fits answer refl) settled (left_same own a s l)
  one_gives (DisjI1 b) result s fits answer settled l = made None r result (Left own a) g (remaining own s) (one_made (DisjI1 b) own a p g r fits answer refl) settled (left_same own a s l)
  one_gives (DisjI2 b) result s fits answer settled l = made None r result (Left own a) g (remaining own s) (one_made (DisjI2 b) own a p g r fits answer refl) settled (left_same own a s l)
  one_gives (ImpI h) result s fits answer settled l = made None r result (Left own a) g (remaining own s) (one_made (ImpI h) own a p g r fits answer refl) settled (left_same own a s l)
  one_gives (NotI h) result s fits answer settled l = made None r result (Left own a) g (remaining own s) (one_made (NotI h) own a p g r fits answer refl) settled (left_same own a s l)
  one_gives FalseE result s fits answer settled l = made None r result (Left own a) g (remaining own s) (one_made FalseE own a p g r fits answer refl) settled (left_same own a s l)
  one_gives (AllI x) result s fits answer settled l = fresh_gives x own result s fits answer settled l
  one_gives (AllE t) result s fits answer settled l = made None r result (Left own a) g (remaining own s) (one_made (AllE t) own a p g r fits answer refl) settled (left_same own a s l)
  one_gives (ExI t) result s fits answer settled l = made None r result (Left own a) g (remaining own s) (one_made (ExI t) own a p g r fits answer refl) settled (left_same own a s l)
