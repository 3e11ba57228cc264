-- A fact that says the goal proves it, and what the search tests of formulas.
use Rattle.std.proofs.Common.{◌≡◌, ℕ, zero, suc, Bool, true, not, List, [], ◌∷◌, cond, None, Ok, Err, refl, ap, ◌∙◌}
use Rattle.nj_formula.specs.declared.formula.Formula.{Formula, out-Formula}
use Rattle.nj_formula.specs.declared.formula.Formula.TheOpen.{Formula-F}
use Rattle.nj_formula.specs.declared.formula.Formula.TheVariants.{rolls-And, rolls-Implies}
use Rattle.nj_formula.specs.Meaning.{meaning}
use Rattle.nj_formula.specs.Statement.{conj, implies}
use Rattle.nj_formula.proofs.KnownFormulas.{is_rolled}
use Rattle.nj_formula.proofs.KnownMeaning.{meaning-And, meaning-Implies}
use Rattle.theory_ctx.specs.Answers.{found}
use Rattle.theory_ctx.specs.declared.local.Local.{Local}
use Rattle.theory_ctx.specs.Locals.{Scoped, local_of, local_first, looked_in}
use Rattle.theory_ctx.specs.Looked.{looked}
use Rattle.nj_kernel.specs.declared.rule.Rule.{Rule}
use Rattle.nj_kernel.specs.RuleNames.{rule_name}
use Rattle.proof_terms.specs.declared.fault.TermFault.TheVariants.{ProvesAnother, ProofTooDeep}
use Rattle.proof_terms.specs.declared.term.Term.{out-Term}
use Rattle.proof_terms.specs.declared.term.Term.TheOpen.{Term-F}
use Rattle.proof_terms.proofs.KnownLayers.{out-Fact}
use Rattle.proof_checks.specs.Checks.{and_then, cited, of_step, step_within, checked_within}
use Rattle.proof_checks.specs.Rows.{step_of}
use Rattle.suggest_rules.specs.Names.{is_alias}
use Rattle.suggest_rules.specs.Search.{says_same, is_false, citing}
use Rattle.nj_suggest.proofs.ProvenLemmas.{IsRight}
use Rattle.nj_suggest.proofs.SeenLemmas.{Means}

pub false_is : (layer : Formula-F Formula) → is_false layer ≡ true → layer ≡ Formula-F.False
false_is Formula-F.False e = refl
false_is (Formula-F.Atom p args) e = cc
false_is (Formula-F.Not a) e = cc
false_is (Formula-F.And a b) e = cc
false_is (Formula-F.Or a b) e = cc
false_is (Formula-F.Implies a b) e = cc
false_is (Formula-F.All x a) e = cc
false_is (Formula-F.Exists x a) e = cc

-- a fact that says the goal proves it
pub fact_right : (n : ℕ) (scope : Scoped) (local : Local) (goal : Formula) → Means scope.locals local → says_same local.formula goal ≡ true
    → IsRight (checked_within n (citing local) goal scope)
unfolding checked_within step_within step_of of_step
fact_right n scope local goal means same = record { from = meaning local.formula ∷ []; is = at n }
  where
    out : out-Term (citing local) ≡ Term-F.Fact (record { name = local.name; range = record { start = 0; stop = 0 } })
    out = out-Fact _

    looked_is : looked_in scope local.name ≡ found None local.name local.formula
    looked_is =
        ap (λ parts. local_first (local_of scope.locals parts) (looked scope.facts scope.theory local.name)) means.plain
        ∙ ap (λ o. local_first o (looked scope.facts scope.theory local.name)) means.first

    cited_is : cited local.name goal (looked_in scope local.name) ≡ Ok (meaning local.formula ∷ [])
    cited_is = ap (cited local.name goal) looked_is ∙ ap (λ b. cond b (Ok (meaning local.formula ∷ [])) (Err (ProvesAnother local.name))) same

    at : (n : ℕ) → checked_within n (citing local) goal scope ≡ Ok (meaning local.formula ∷ [])
    at zero = ap (λ l. and_then (step_within zero l goal) (of_step (λ _ _ _. Err ProofTooDeep) scope goal)) out ∙ cited_is
    at (suc n) = ap (λ l. and_then (step_within (suc n) l goal) (of_step (checked_within n) scope goal)) out ∙ cited_is

abbrev pub usable : List (List ℕ) → Rule → Bool
usable aliases rule = not (is_alias aliases (rule_name rule))

pub says_conj : (f a b : Formula) → out-Formula f ≡ Formula-F.And a b → meaning f ≡ conj (meaning a) (meaning b)
says_conj f a b e = ap meaning (is_rolled f (Formula-F.And a b) e ∙ rolls-And a b) ∙ meaning-And a b

pub says_implies : (f a b : Formula) → out-Formula f ≡ Formula-F.Implies a b → meaning f ≡ implies (meaning a) (meaning b)
says_implies f a b e = ap meaning (is_rolled f (Formula-F.Implies a b) e ∙ rolls-Implies a b) ∙ meaning-Implies a b
