-- Rules of two and three premises.
use Rattle.std.proofs.Common.{◌≡◌, ℕ, false, List, ◌∷◌, ◌++◌, Option, Some, None, Result, refl, sym, ◌∙◌, subst}
use Rattle.nj_formula.specs.declared.argument.Argument.TheVariants.{Free}
use Rattle.nj_formula.specs.Free.{is_free}
use Rattle.nj_formula.specs.Instance.{instance}
use Rattle.nj_formula.specs.Meaning.{meaning}
use Rattle.nj_formula.specs.Statement.{Statement, exists}
use Rattle.nj_kernel.specs.declared.rule.Rule.TheVariants as R
use Rattle.nj_kernel.specs.declared.thm.Thm.{Thm}
use Rattle.nj_kernel.specs.Rules.{Answer, Makes}
use Rattle.nj_kernel.specs.Rules as K
use Rattle.nj_kernel.specs.Sets.{members, ◌∪◌, ◌∖◌, Lists, IsFreshIn}
use Rattle.theory_ctx.specs.declared.local.Local.{Local}
use Rattle.proof_checks.specs.declared.halt.Halt.{Halt}
use Rattle.proof_checks.specs.declared.step.Binary.{Binary}
use Rattle.proof_checks.specs.declared.step.Binary.TheVariants.{ConjI, ImpE, NotE, ExE}
use Rattle.proof_checks.specs.Answers.{Gives}
use Rattle.proof_checks.specs.Checks.{by_two, by_three, if_fresh}
use Rattle.proof_checks.specs.Fits.{FitsTwo, FitsThree, fresh_two}
use Rattle.proof_checks.specs.Kernel.{TwoAnswers, IsFit, Settles}
use Rattle.proof_checks.specs.Scopes.{remaining}
use Rattle.proof_checks.specs.Statements.{without}
use Rattle.proof_checks.proofs.SetLemmas.{Same, joined, left_out}
use Rattle.proof_checks.proofs.RuleLemmas.{Left, left_same}
use Rattle.proof_checks.proofs.SettleLemmas.{fit_made, made, depending}
use Rattle.proof_checks.proofs.KnownStatements.{fresh_among, among_fresh, first_fresh, more_fresh}

two_made : (rule : Binary) (o k : Option Local) (a b : List Statement) (p q g : Statement) (r : Answer)
    → FitsTwo rule o k p q g → TwoAnswers rule a p b q r → fresh_two rule ≡ None → Makes r (Left o a ∪ Left k b) g
unfolding FitsTwo TwoAnswers fresh_two
two_made ConjI None None a b p q g r fits answer e = subst (λ c. Makes r (members a ∪ members b) c) (sym fits) answer
two_made ConjI None (Some k) a b p q g r fits answer e = absurd fits
two_made ConjI (Some o) k a b p q g r fits answer e = absurd fits
two_made ImpE None None a b p q g r fits answer e = (subst (λ c. K.ImpE a c b q r) fits answer).0 refl
two_made ImpE None (Some k) a b p q g r fits answer e = absurd fits
two_made ImpE (Some o) k a b p q g r fits answer e = absurd fits
two_made NotE None None a b p q g r fits answer e =
    subst (λ c. Makes r (members a ∪ members b) c) (sym fits.1) ((subst (λ c. K.NotE a c b q r) fits.0 answer).0 refl)
two_made NotE None (Some k) a b p q g r fits answer e = absurd fits
two_made NotE (Some o) k a b p q g r fits answer e = absurd fits
two_made (ExE x) o k a b p q g r fits answer e = cc

-- x is fresh where the kernel wants it, just where it is free in none of these
ex_e_gives : (x : List ℕ) (a b s t : List Statement) (body h q : Statement) (r : Answer) (result : Result Thm Halt)
    → h ≡ instance (Free x) body → K.ExE x a (exists body) b q r → Settles (Some x) r result → Lists a (members s) → Lists b (members t)
    → Gives result (if_fresh x (exists body ∷ q ∷ without h t) (s ++ without h t)) q
ex_e_gives x a b s t body h q r result is answer settled l m =
    depending x (exists body ∷ q ∷ without h t) (s ++ without h t) r result (members a ∪ (members b ∖ instance (Free x) body)) q R.ExE 2
    ((is_free x body ≡ false) × (is_free x q ≡ false) × IsFreshIn x (members b ∖ instance (Free x) body))
    (λ e. let one = first_fresh x (exists body) (q ∷ without h t) e in
    let two = first_fresh x q (without h t) one.1 in
    (one.0, two.0, λ f k. fresh_among x (without h t) two.1 f ((out f).0 k)))
    (λ holds. more_fresh x (exists body) (q ∷ without h t) holds.0 (more_fresh x q (without h t) holds.1 (among_fresh x (without h t) (λ f k. holds.2 f ((out f).1 k)))))
    answer settled (joined s (without h t) l out)
  where
    out : Same (members b ∖ instance (Free x) body) (members (without h t))
    out = subst (λ i. Same (members b ∖ i) (members (without h t))) is (left_out h t m)

module _ (o k : Option Local) (a b : List Statement) (p q g : Statement) (r : Answer) where
  pub two_fit : (rule : Binary) → FitsTwo rule o k p q g → TwoAnswers rule a p b q r → IsFit (fresh_two rule) r
  unfolding fresh_two
  two_fit ConjI fits answer = fit_made None r (Left o a ∪ Left k b) g (two_made ConjI o k a b p q g r fits answer refl)
  two_fit ImpE fits answer = fit_made None r (Left o a ∪ Left k b) g (two_made ImpE o k a b p q g r fits answer refl)
  two_fit NotE fits answer = fit_made None r (Left o a ∪ Left k b) g (two_made NotE o k a b p q g r fits answer refl)
  two_fit (ExE x) fits answer = tt

  fresh_gives : (x : List ℕ) (n m : Option Local) (result : Result Thm Halt) (s t : List Statement) → FitsTwo (ExE x) n m p q g → K.ExE x a p b q r
      → Settles (Some x) r result → Lists a (members s) → Lists b (members t)
      → Gives result (if_fresh x (p ∷ g ∷ remaining m t) (remaining n s ++ remaining m t)) g
  unfolding FitsTwo
  fresh_gives x None (Some own) result s t fits answer settled l u =
      let h = meaning own.formula in
      subst (λ c. Gives result (if_fresh x (p ∷ c ∷ without h t) (s ++ without h t)) c) fits.3
      (subst (λ c. Gives result (if_fresh x (c ∷ q ∷ without h t) (s ++ without h t)) q) (sym fits.1)
      (ex_e_gives x a b s t fits.0 h q r result fits.2 (subst (λ c. K.ExE x a c b q r) fits.1 answer) settled l u))
  fresh_gives x None None result s t fits answer settled l u = absurd fits
  fresh_gives x (Some n) m result s t fits answer settled l u = absurd fits

  pub two_gives : (rule : Binary) (result : Result Thm Halt) (s t : List Statement) → FitsTwo rule o k p q g → TwoAnswers rule a p b q r
      → Settles (fresh_two rule) r result → Lists a (members s) → Lists b (members t)
      → Gives result (by_two rule p g (remaining o s) (remaining k t)) g
  unfolding by_two fresh_two TwoAnswers
  two_gives ConjI result s t fits answer settled l m = made None r result (Left o a ∪ Left k b) g (remaining o s ++ remaining k t) (two_made ConjI o k a b p q g r fits answer refl) settled (joined (remaining o s) (remaining k t) (left_same o a s l) (left_same k b t m))
  two_gives ImpE result s t fits answer settled l m = made None r result (Left o a ∪ Left k b) g (remaining o s ++ remaining k t) (two_made ImpE o k a b p q g r fits answer refl) settled (joined (remaining o s) (remaining k t) (left_same o a s l) (left_same k b t m))
  two_gives NotE result s t fits answer settled l m = made None r result (Left o a ∪ Left k b) g (remaining o s ++ remaining k t) (two_made NotE o k a b p q g r fits answer refl) settled (joined (remaining o s) (remaining k t) (left_same o a s l) (left_same k b t m))
  two_gives (ExE x) result s t fits answer settled l m = fresh_gives x o k result s t fits answer settled l m

three_made : (o k n : Option Local) (a b d : List Statement) (p q h g : Statement) (r : Answer)
    → FitsThree o k n p q h g → K.DisjE a p b q d h r → Makes r (Left o a ∪ Left k b ∪ Left n d) g
unfolding FitsThree
three_made None (Some k) (Some n) a b d p q h g r fits answer =
    subst (λ c. Makes r (members a ∪ (members b ∖ meaning k.formula) ∪ (members d ∖ meaning n.formula)) c) fits.1
    ((subst (λ c. K.DisjE a c b q d h r) fits.0 answer).0 (fits.1 ∙ sym fits.2))
three_made None (Some k) None a b d p q h g r fits answer = absurd fits
three_made None None n a b d p q h g r fits answer = absurd fits
three_made (Some o) k n a b d p q h g r fits answer = absurd fits

module _ (o k n : Option Local) (a b d : List Statement) (p q h g : Statement) (r : Answer) where
  pub three_fit : FitsThree o k n p q h g → K.DisjE a p b q d h r → IsFit None r
  three_fit fits answer = fit_made None r (Left o a ∪ Left k b ∪ Left n d) g (three_made o k n a b d p q h g r fits answer)

  pub three_gives : (result : Result Thm Halt) (s t u : List Statement) → FitsThree o k n p q h g → K.DisjE a p b q d h r
      → Settles None r result → Lists a (members s) → Lists b (members t) → Lists d (members u)
      → Gives result (by_three (remaining o s) (remaining k t) (remaining n u)) g
  three_gives result s t u fits answer settled l m j =
      made None r result (Left o a ∪ Left k b ∪ Left n d) g (remaining o s ++ remaining k t ++ remaining n u) (three_made o k n a b d p q h g r fits answer) settled
      (joined (remaining o s ++ remaining k t) (remaining n u) (joined (remaining o s) (remaining k t) (left_same o a s l) (left_same k b t m)) (left_same n d u j))
