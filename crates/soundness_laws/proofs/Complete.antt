-- Each proof by the rules is found.
use Rattle.std.proofs.Common.{◌≡◌, ℕ, zero, suc, cond, List, [], ◌∷◌, ◌++◌, Ok, Err, ◌∙◌, ap}
use Rattle.nj_formula.specs.declared.argument.Argument.TheVariants.{Free}
use Rattle.nj_formula.specs.declared.formula.Formula.{Formula}
use Rattle.nj_formula.specs.declared.formula.Formula.TheVariants as F
use Rattle.nj_formula.specs.FormulaInstance.{formula_instance}
use Rattle.nj_formula.specs.Meaning.{meaning}
use Rattle.nj_formula.specs.Statement.{Statement}
use Rattle.nj_kernel.specs.Sets.{members, IsFreshIn}
use Rattle.theory_ctx.specs.Answers.{Answer, found}
use Rattle.theory_ctx.specs.Locals.{Scoped, looked_in}
use Rattle.proof_terms.specs.declared.fault.TermFault.TheVariants.{ProofTooDeep, ProvesAnother}
use Rattle.proof_terms.specs.declared.term.Cite.{Cite}
use Rattle.proof_terms.specs.declared.term.Term.{Term, out-Term}
use Rattle.proof_terms.specs.declared.term.Term.TheVariants as T
use Rattle.proof_terms.proofs.KnownLayers.{out-Fact}
use Rattle.proof_checks.specs.declared.step.Step.{Step}
use Rattle.proof_checks.specs.declared.step.Step.TheVariants.{One, Two, Three}
use Rattle.proof_checks.specs.declared.step.Unary.TheVariants as U
use Rattle.proof_checks.specs.declared.step.Binary.TheVariants as B
use Rattle.proof_checks.specs.Checks.{cited, by_one, by_two, of_step, step_within, checked_within}
use Rattle.proof_checks.specs.Parts.{part, under}
use Rattle.proof_checks.specs.Rows.{step_of}
use Rattle.proof_checks.specs.Statements.{without}
use Rattle.proof_checks.proofs.KnownStatements.{so_same, among_fresh}
use Rattle.soundness_laws.specs.Proofs.{TermProves, cites, conj_i, conj_e1, conj_e2, disj_i1, disj_i2}
use Rattle.soundness_laws.specs.Proofs.{disj_e, imp_i, imp_e, not_i, not_e, false_e, all_i, all_e}
use Rattle.soundness_laws.specs.Proofs.{ex_i, ex_e}
use Rattle.soundness_laws.proofs.Forms.{conj_i_row, conj_e1_row, conj_e2_row, disj_i1_row}
use Rattle.soundness_laws.proofs.Forms.{disj_i2_row, disj_e_row, imp_i_row, imp_e_row, not_i_row}
use Rattle.soundness_laws.proofs.Forms.{not_e_row, false_e_row, all_i_row, all_e_row, ex_i_row}
use Rattle.soundness_laws.proofs.Forms.{ex_e_row}
use Rattle.proof_checks.proofs.KnownFound.{then_ok}
use Rattle.soundness_laws.proofs.Steps.{found_fresh, one_ok, two_ok, three_ok}

-- a rule is checked by its parts, in which one fewer may be nested
ruled : (n : ℕ) (t : Term) (goal : Formula) (scope : Scoped) (step : Step)
    → step_of (out-Term t) goal ≡ Ok step
    → checked_within (suc n) t goal scope ≡ of_step (checked_within n) scope goal step
unfolding checked_within step_within
ruled n t goal scope step e = then_ok (of_step (checked_within n) scope goal) e

named : (scope : Scoped) (c : Cite) (goal fact : Formula) (answer : Answer)
    → looked_in scope c.name ≡ answer → cited c.name goal answer ≡ Ok (meaning fact ∷ [])
    → (n : ℕ) → checked_within n (T.Fact c) goal scope ≡ Ok (meaning fact ∷ [])
unfolding checked_within step_within step_of of_step
named scope c goal fact answer is e zero =
    then_ok (of_step (λ _ _ _. Err ProofTooDeep) scope goal)
    (ap (λ l. step_within zero l goal) (out-Fact c)) ∙ (ap (cited c.name goal) is ∙ e)
named scope c goal fact answer is e (suc n) =
    then_ok (of_step (checked_within n) scope goal)
    (ap (λ l. step_within (suc n) l goal) (out-Fact c)) ∙ (ap (cited c.name goal) is ∙ e)

one_fresh : (x : List ℕ) (c : Statement) (s : List Statement) → IsFreshIn x (members (c ∷ s))
    → by_one (U.AllI x) c s ≡ Ok s
unfolding by_one
one_fresh x c s fresh = found_fresh x (c ∷ s) s (among_fresh x (c ∷ s) fresh)

two_fresh : (x : List ℕ) (a c : Statement) (s t : List Statement)
    → IsFreshIn x (members (a ∷ c ∷ t)) → by_two (B.ExE x) a c s t ≡ Ok (s ++ t)
unfolding by_two
two_fresh x a c s t fresh = found_fresh x (a ∷ c ∷ t) (s ++ t) (among_fresh x (a ∷ c ∷ t) fresh)

pub complete : {n : ℕ} {scope : Scoped} {t : Term} {goal : Formula} {s : List Statement}
    → TermProves n scope t goal s → checked_within n t goal scope ≡ Ok s
unfolding by_one by_two
complete (cites {n = n} {scope = scope} {goal = goal} {theory = theory}
    {name = name} c fact looked is) =
    named scope c goal fact (found theory name fact) looked
    (ap (λ b. cond b (Ok (meaning fact ∷ [])) (Err (ProvesAnother c.name)))
    (so_same (meaning fact) (meaning goal) is)) n
complete (conj_i {n = n} {scope = scope} {t = t} {u = u} {a = a} {b = b} {s = s} {r = r} d e) =
    ruled n (T.ConjI t u) (F.And a b) scope (Two B.ConjI (part t a) (part u b))
    (conj_i_row t u a b)
    ∙ two_ok (checked_within n) scope (F.And a b) B.ConjI (part t a) (part u b) s r (complete d)
    (complete e)
complete (conj_e1 {n = n} {scope = scope} {t = t} {a = a} {s = s} b d) =
    ruled n (T.ConjE1 b t) a scope (One U.ConjE1 (part t (F.And a b))) (conj_e1_row b t a)
    ∙ one_ok (checked_within n) scope a U.ConjE1 (part t (F.And a b)) s (complete d)
complete (conj_e2 {n = n} {scope = scope} {t = t} {b = b} {s = s} a d) =
    ruled n (T.ConjE2 a t) b scope (One U.ConjE2 (part t (F.And a b))) (conj_e2_row a t b)
    ∙ one_ok (checked_within n) scope b U.ConjE2 (part t (F.And a b)) s (complete d)
complete (disj_i1 {n = n} {scope = scope} {t = t} {a = a} {s = s} b d) =
    ruled n (T.DisjI1 t) (F.Or a b) scope (One (U.DisjI1 b) (part t a)) (disj_i1_row t a b)
    ∙ one_ok (checked_within n) scope (F.Or a b) (U.DisjI1 b) (part t a) s (complete d)
complete (disj_i2 {n = n} {scope = scope} {t = t} {b = b} {s = s} a d) =
    ruled n (T.DisjI2 t) (F.Or a b) scope (One (U.DisjI2 a) (part t b)) (disj_i2_row t a b)
    ∙ one_ok (checked_within n) scope (F.Or a b) (U.DisjI2 a) (part t b) s (complete d)
complete (disj_e {n = n} {scope = scope} {t = t} {u = u} {v = v} {c = c} {s = s} {r = r}
    {q = q} a b x y d e f) =
    ruled n (T.DisjE a b t x u y v) c scope
    (Three (part t (F.Or a b)) (under x a u c) (under y b v c)) (disj_e_row a b t x u y v c)
    ∙ three_ok (checked_within n) scope c (part t (F.Or a b)) (under x a u c)
    (under y b v c) s r q (complete d) (complete e) (complete f)
complete (imp_i {n = n} {scope = scope} {t = t} {b = b} {s = s} x a d) =
    ruled n (T.ImpI x t) (F.Implies a b) scope (One (U.ImpI a) (under x a t b))
    (imp_i_row x t a b)
    ∙ one_ok (checked_within n) scope (F.Implies a b) (U.ImpI a) (under x a t b) s (complete d)
complete (imp_e {n = n} {scope = scope} {t = t} {u = u} {a = a} {b = b} {s = s} {r = r} d e) =
    ruled n (T.ImpE a t u) b scope (Two B.ImpE (part t (F.Implies a b)) (part u a))
    (imp_e_row a t u b)
    ∙ two_ok (checked_within n) scope b B.ImpE (part t (F.Implies a b)) (part u a) s r
    (complete d) (complete e)
complete (not_i {n = n} {scope = scope} {t = t} {s = s} x a d) =
    ruled n (T.NotI x t) (F.Not a) scope (One (U.NotI a) (under x a t F.False)) (not_i_row x t a)
    ∙ one_ok (checked_within n) scope (F.Not a) (U.NotI a) (under x a t F.False) s (complete d)
complete (not_e {n = n} {scope = scope} {t = t} {u = u} {a = a} {s = s} {r = r} d e) =
    ruled n (T.NotE a t u) F.False scope (Two B.NotE (part t (F.Not a)) (part u a))
    (not_e_row a t u)
    ∙ two_ok (checked_within n) scope F.False B.NotE (part t (F.Not a)) (part u a) s r
    (complete d) (complete e)
complete (false_e {n = n} {scope = scope} {t = t} {c = c} {s = s} d) =
    ruled n (T.FalseE t) c scope (One U.FalseE (part t F.False)) (false_e_row t c)
    ∙ one_ok (checked_within n) scope c U.FalseE (part t F.False) s (complete d)
complete (all_i {n = n} {scope = scope} {t = t} {s = s} x y p d fresh) =
    ruled n (T.AllI x t) (F.All y p) scope (One (U.AllI x) (part t (formula_instance (Free x) p)))
    (all_i_row x t y p)
    ∙ (one_ok (checked_within n) scope (F.All y p) (U.AllI x)
    (part t (formula_instance (Free x) p)) s (complete d)
    ∙ one_fresh x (meaning (F.All y p)) s fresh)
complete (all_e {n = n} {scope = scope} {t = t} {goal = goal} {s = s} y p term closed is d) =
    ruled n (T.AllE (F.All y p) term t) goal scope (One (U.AllE term) (part t (F.All y p)))
    (all_e_row y p term t goal closed is)
    ∙ one_ok (checked_within n) scope goal (U.AllE term) (part t (F.All y p)) s (complete d)
complete (ex_i {n = n} {scope = scope} {t = t} {s = s} y p term closed d) =
    ruled n (T.ExI term t) (F.Exists y p) scope
    (One (U.ExI term) (part t (formula_instance term p))) (ex_i_row term t y p closed)
    ∙ one_ok (checked_within n) scope (F.Exists y p) (U.ExI term)
    (part t (formula_instance term p)) s (complete d)
complete (ex_e {n = n} {scope = scope} {t = t} {u = u} {c = c} {s = s}
    {r = r} x h y p d e fresh) =
    let body = formula_instance (Free x) p in
    ruled n (T.ExE (F.Exists y p) x h t u) c scope
    (Two (B.ExE x) (part t (F.Exists y p)) (under h body u c)) (ex_e_row y p x h t u c)
    ∙ (two_ok (checked_within n) scope c (B.ExE x) (part t (F.Exists y p)) (under h body u c) s r
    (complete d) (complete e)
    ∙ two_fresh x (meaning (F.Exists y p)) (meaning c) s (without (meaning body) r) fresh)
