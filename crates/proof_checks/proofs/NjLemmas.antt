-- A rule whose premises fit derives its conclusion.
use Rattle.std.proofs.Common.{◌≡◌, ℕ, false, List, ◌∷◌, ◌++◌, Option, Some, None, refl, sym, ◌∙◌, ap, subst}
use Rattle.nj_formula.specs.Free.{is_free}
use Rattle.nj_formula.specs.Meaning.{meaning}
use Rattle.nj_formula.specs.Statement.{Statement, neg, implies, every, exists}
use Rattle.nj_kernel.specs.Nj.{Nj}
use Rattle.nj_kernel.specs.Nj as N
use Rattle.nj_kernel.specs.Sets.{members, ◌∪◌, ◌∖◌, Lists}
use Rattle.theory_ctx.specs.declared.local.Local.{Local}
use Rattle.proof_state.proofs.KnownSets.{lists_both}
use Rattle.proof_checks.specs.declared.step.Unary.{Unary}
use Rattle.proof_checks.specs.declared.step.Unary.TheVariants.{ConjE1, ConjE2, DisjI1, DisjI2, ImpI, NotI, FalseE, AllI, AllE, ExI}
use Rattle.proof_checks.specs.declared.step.Binary.{Binary}
use Rattle.proof_checks.specs.declared.step.Binary.TheVariants.{ConjI, ImpE, NotE, ExE}
use Rattle.proof_checks.specs.Fits.{FitsOne, FitsTwo, FitsThree, fresh_one, fresh_two}
use Rattle.proof_checks.specs.Scopes.{remaining}
use Rattle.proof_checks.specs.Statements.{is_free_among, without}
use Rattle.proof_checks.proofs.SetLemmas.{Same, joined, left_out}
use Rattle.proof_checks.proofs.KnownStatements.{lists_without, fresh_among, first_fresh}

itself : (s : List Statement) → Same (members s) (members s)
itself s f = (λ m. m, λ m. m)

turned : {P Q : Statement → Type 0} → Same P Q → Same Q P
turned same f = ((same f).1, (same f).0)

lists_left : (s t : List Statement) (a : Statement) → Lists (s ++ without a t) (members s ∪ (members t ∖ a))
lists_left s t a = turned (joined s (without a t) (itself s) (left_out a t (itself t)))

lists_cases : (s t u : List Statement) (a b : Statement) → Lists (s ++ without a t ++ without b u) (members s ∪ (members t ∖ a) ∪ (members u ∖ b))
lists_cases s t u a b =
    turned (joined (s ++ without a t) (without b u) (joined s (without a t) (itself s) (left_out a t (itself t))) (left_out b u (itself u)))

pub one_nj : (rule : Unary) (own : Option Local) (a : List Statement) (p g : Statement) → FitsOne rule own p g
    → ((x : List ℕ) → fresh_one rule ≡ Some x → is_free_among x (g ∷ a) ≡ false) → Nj a p → Nj (remaining own a) g
unfolding FitsOne fresh_one
one_nj ConjE1 None a p g fits fresh d = N.conj_e1 (subst (Nj a) fits.1 d)
one_nj ConjE1 (Some own) a p g fits fresh d = absurd fits
one_nj ConjE2 None a p g fits fresh d = N.conj_e2 (subst (Nj a) fits.1 d)
one_nj ConjE2 (Some own) a p g fits fresh d = absurd fits
one_nj (DisjI1 b) None a p g fits fresh d = subst (Nj a) (sym fits) (N.disj_i1 d)
one_nj (DisjI1 b) (Some own) a p g fits fresh d = absurd fits
one_nj (DisjI2 b) None a p g fits fresh d = subst (Nj a) (sym fits) (N.disj_i2 d)
one_nj (DisjI2 b) (Some own) a p g fits fresh d = absurd fits
one_nj (ImpI h) None a p g fits fresh d = absurd fits
one_nj (ImpI h) (Some own) a p g fits fresh d =
    subst (Nj (without (meaning own.formula) a)) (ap (λ k. implies (meaning k) p) fits.0 ∙ sym fits.1) (N.imp_i (lists_without (meaning own.formula) a) d)
one_nj (NotI h) None a p g fits fresh d = absurd fits
one_nj (NotI h) (Some own) a p g fits fresh d =
    subst (Nj (without (meaning own.formula) a)) (ap (λ k. neg (meaning k)) fits.0 ∙ sym fits.2) (N.not_i (lists_without (meaning own.formula) a) (subst (Nj a) fits.1 d))
one_nj FalseE None a p g fits fresh d = N.false_e (subst (Nj a) fits d)
one_nj FalseE (Some own) a p g fits fresh d = absurd fits
one_nj (AllI x) None a p g fits fresh d =
    let parts = first_fresh x (every fits.0) a (subst (λ c. is_free_among x (c ∷ a) ≡ false) fits.2 (fresh x refl)) in
    subst (Nj a) (sym fits.2) (N.all_i x parts.0 (fresh_among x a parts.1) (subst (Nj a) fits.1 d))
one_nj (AllI x) (Some own) a p g fits fresh d = absurd fits
one_nj (AllE t) None a p g fits fresh d = subst (Nj a) (sym fits.2) (N.all_e t fits.0 fits.3 (subst (Nj a) fits.1 d))
one_nj (AllE t) (Some own) a p g fits fresh d = absurd fits
one_nj (ExI t) None a p g fits fresh d = subst (Nj a) (sym fits.2) (N.ex_i t fits.3 (subst (Nj a) fits.1 d))
one_nj (ExI t) (Some own) a p g fits fresh d = absurd fits

pub two_nj : (rule : Binary) (o k : Option Local) (a b : List Statement) (p q g : Statement) → FitsTwo rule o k p q g
    → ((x : List ℕ) → fresh_two rule ≡ Some x → is_free_among x (p ∷ g ∷ remaining k b) ≡ false) → Nj a p → Nj b q → Nj (remaining o a ++ remaining k b) g
unfolding FitsTwo fresh_two
two_nj ConjI None None a b p q g fits fresh d e = subst (Nj (a ++ b)) (sym fits) (N.conj_i (lists_both a b) d e)
two_nj ConjI None (Some k) a b p q g fits fresh d e = absurd fits
two_nj ConjI (Some o) k a b p q g fits fresh d e = absurd fits
two_nj ImpE None None a b p q g fits fresh d e = N.imp_e (lists_both a b) (subst (Nj a) fits d) e
two_nj ImpE None (Some k) a b p q g fits fresh d e = absurd fits
two_nj ImpE (Some o) k a b p q g fits fresh d e = absurd fits
two_nj NotE None None a b p q g fits fresh d e = subst (Nj (a ++ b)) (sym fits.1) (N.not_e (lists_both a b) (subst (Nj a) fits.0 d) e)
two_nj NotE None (Some k) a b p q g fits fresh d e = absurd fits
two_nj NotE (Some o) k a b p q g fits fresh d e = absurd fits
two_nj (ExE x) None (Some own) a b p q g fits fresh d e =
    let h = meaning own.formula in
    let all = first_fresh x (exists fits.0) (g ∷ without h b) (subst (λ c. is_free_among x (c ∷ g ∷ without h b) ≡ false) fits.1 (fresh x refl)) in
    let rest = first_fresh x g (without h b) all.1 in
    N.ex_e x fits.0 (subst (λ i. Lists (a ++ without h b) (members a ∪ (members b ∖ i))) fits.2 (lists_left a b h)) all.0 rest.0
    (subst (λ i. (f : Statement) → (members b ∖ i) f → is_free x f ≡ false) fits.2 (λ f m. fresh_among x (without h b) rest.1 f ((lists_without h b f).1 m)))
    (subst (Nj a) fits.1 d) (subst (Nj b) fits.3 e)
two_nj (ExE x) None None a b p q g fits fresh d e = absurd fits
two_nj (ExE x) (Some o) k a b p q g fits fresh d e = absurd fits

pub three_nj : (o k n : Option Local) (a b c : List Statement) (p q h g : Statement) → FitsThree o k n p q h g → Nj a p → Nj b q → Nj c h
    → Nj (remaining o a ++ remaining k b ++ remaining n c) g
unfolding FitsThree
three_nj None (Some k) (Some n) a b c p q h g fits d e f =
    N.disj_e (lists_cases a b c (meaning k.formula) (meaning n.formula)) (subst (Nj a) fits.0 d) (subst (Nj b) fits.1 e) (subst (Nj c) fits.2 f)
three_nj None (Some k) None a b c p q h g fits d e f = absurd fits
three_nj None None n a b c p q h g fits d e f = absurd fits
three_nj (Some o) k n a b c p q h g fits d e f = absurd fits
