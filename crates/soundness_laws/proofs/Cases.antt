-- Small proofs, computed.
use Rattle.std.proofs.Common.{◌≡◌, ℕ, true, false, cond, not, List, [], ◌∷◌, Ok, Err, None}
use Rattle.std.proofs.Common.{codes, refl, sym, ◌∙◌, ap, subst}
use Rattle.nj_formula.specs.Meaning.{meaning}
use Rattle.nj_formula.specs.Statement.{Statement}
use Rattle.proof_checks.specs.Statements.{is_same, without}
use Rattle.proof_checks.proofs.KnownStatements.{so_same}
use Rattle.soundness_laws.specs.Proofs.{TermProves, assuming, cites, conj_i, conj_e1, conj_e2, imp_i}
use Rattle.soundness_laws.specs.Small.{prop, swap, holds_of, holds_of_all, fact, swapping, scope_of}
use Rattle.soundness_laws.specs.Small.{says_x}
use Rattle.nj_formula.specs.declared.argument.Argument.TheVariants.{Free, Bound}
use Rattle.nj_formula.specs.declared.formula.Formula.{Formula}
use Rattle.nj_formula.specs.FormulaInstance.{formula_instance, formula_layer}
use Rattle.nj_formula.specs.Instance.{filled_layer}
use Rattle.nj_formula.specs.Free.{is_free}
use Rattle.nj_formula.specs.declared.formula.Formula.TheVariants as F
use Rattle.nj_formula.proofs.KnownArguments.{fold-Free, fold-Bound}
use Rattle.nj_formula.proofs.KnownFormulas.{fold-Atom, out-Implies}
use Rattle.nj_formula.proofs.KnownMeaning.{meaning-Atom, meaning-All}
use Rattle.theory_ctx.specs.Locals.{Scoped}
use Rattle.proof_terms.specs.declared.fault.TermFault.{TermFault}
use Rattle.proof_terms.specs.declared.fault.TermFault.TheVariants.{ProofTooDeep, UnknownName}
use Rattle.proof_terms.specs.declared.fault.TermFault.TheVariants.{NotFresh}
use Rattle.proof_terms.specs.declared.term.Term.{Term}
use Rattle.proof_terms.specs.declared.term.Term.TheVariants.{AllI}
use Rattle.proof_terms.proofs.KnownLayers.{out-Fact, out-ImpI, out-ConjI, out-ConjE2}
use Rattle.proof_checks.specs.Checks.{Found, checked_within, step_within, of_step, by_one}
use Rattle.proof_checks.specs.Rows.{step_of}
use Rattle.soundness_laws.proofs.Layers.{out-And, out-All, out-AllI}
use Rattle.soundness_laws.proofs.Complete.{complete}

-- a statement is discharged wherever it stands
twice : (a : Statement) → without a (a ∷ a ∷ []) ≡ []
twice a =
    ap (λ b. cond (not b) (a ∷ without a (a ∷ [])) (without a (a ∷ []))) (so_same a a refl)
    ∙ ap (λ b. cond (not b) (a ∷ []) []) (so_same a a refl)

-- `P & Q`
abbrev both : Formula
both = F.And (prop (codes "P")) (prop (codes "Q"))

there : (n : ℕ)
    → TermProves n (assuming (codes "h") both (scope_of [])) fact both (meaning both ∷ [])
there n =
    cites {theory = None} {name = codes "h"}
    (record { name = codes "h"; range = record { start = 0; stop = 0 } }) both refl refl

pub swaps : TermProves 3 (scope_of []) swapping swap []
swaps = subst (λ s. TermProves 3 (scope_of []) swapping swap s) (twice (meaning both))
    (imp_i (codes "h") both (conj_i (conj_e2 (prop (codes "P")) (there 0))
    (conj_e1 (prop (codes "Q")) (there 0))))

-- what is found to be wrong is no proof
pub none : (n : ℕ) (t : Term) (goal : Formula) (scope : Scoped) (f : TermFault)
    → checked_within n t goal scope ≡ Err f
    → (s : List Statement) → TermProves n scope t goal s → ⊥
none n t goal scope f wrong s d =
    let both_ways : ◌≡◌ {A = Found} (Err f) (Ok s) = sym wrong ∙ complete d in cc

pub unknown : checked_within 0 fact (prop (codes "P")) (scope_of [])
    ≡ Err (UnknownName (codes "h"))
unfolding checked_within step_within of_step
unknown = simp out-Fact

pub nested : checked_within 2 swapping swap (scope_of []) ≡ Err ProofTooDeep
unfolding checked_within step_within of_step step_of
nested = simp (out-ImpI, out-ConjI, out-ConjE2, out-Implies, out-And)

instance_is : formula_instance (Free (codes "x")) (holds_of (Bound 0))
    ≡ holds_of (Free (codes "x"))
instance_is =
    ap (λ f. f 0) (fold-Atom (formula_layer (Free (codes "x"))) (codes "P") (Bound 0 ∷ []))
    ∙ ap (λ a. F.Atom (codes "P") (a ∷ [])) (fold-Bound (filled_layer 0 (Free (codes "x"))) 0)

x_free : is_free (codes "x") (meaning (holds_of (Free (codes "x")))) ≡ true
x_free = simp (meaning-Atom, fold-Free)

x_bound : is_free (codes "x") (meaning (holds_of (Bound 0))) ≡ false
x_bound = simp (meaning-Atom, fold-Bound)

itself : (a : Statement) → is_same a a ≡ true
itself a = so_same a a refl

pub not_fresh : checked_within 1 (AllI (codes "x") fact) holds_of_all (scope_of (says_x ∷ []))
    ≡ Err (NotFresh (codes "x"))
unfolding checked_within step_within of_step step_of by_one
not_fresh = simp (out-AllI, out-All, out-Fact, instance_is, itself, meaning-All, x_free, x_bound)
