-- What an answer is, as its parts are found.
use Rattle.std.proofs.Common.{◌≡◌, ℕ, Bool, true, false, cond, List, Result, Ok, Err, refl, sym, ap, ◌∙◌}
use Rattle.nj_formula.specs.declared.formula.Formula.{Formula}
use Rattle.nj_formula.specs.Meaning.{meaning}
use Rattle.nj_formula.specs.Statement.{Statement}
use Rattle.theory_ctx.specs.Locals.{Scoped}
use Rattle.proof_terms.specs.declared.fault.TermFault.{TermFault}
use Rattle.proof_terms.specs.declared.fault.TermFault.TheVariants.{NotFresh}
use Rattle.proof_terms.specs.declared.term.Term.{Term}
use Rattle.proof_checks.specs.declared.step.Binary.{Binary}
use Rattle.proof_checks.specs.declared.step.Part.{Part}
use Rattle.proof_checks.specs.declared.step.Step.{Step}
use Rattle.proof_checks.specs.Rows.{Planned}
use Rattle.proof_checks.specs.Checks.{Found, and_then, by_three, by_two, if_fresh, of_part}
use Rattle.proof_checks.specs.Statements.{is_free_among}
use Rattle.proof_checks.specs.Scopes.{inside, remaining}

-- equal answers answer the same
pub same_step : {s t : Step} → ◌≡◌ {A = Planned} (Ok s) (Ok t) → s ≡ t
same_step e = cc

pub same_found : {s t : List Statement} → ◌≡◌ {A = Found} (Ok s) (Ok t) → s ≡ t
same_found e = cc

-- what follows a part that is found, or that is at fault
pub then_ok : {A B : Type 0} {m : Result A TermFault} {a : A} (next : A → Result B TermFault) → m ≡ Ok a → and_then m next ≡ next a
then_ok next e = ap (λ x. and_then x next) e

pub then_err : {A B : Type 0} {m : Result A TermFault} {f : TermFault} (next : A → Result B TermFault) → m ≡ Err f → and_then m next ≡ Err f
then_err next e = ap (λ x. and_then x next) e

-- what was found before what follows
pub parted : {A B : Type 0} (m : Result A TermFault) (next : A → Result B TermFault) (b : B) → and_then m next ≡ Ok b → (a : A) × (m ≡ Ok a) × (next a ≡ Ok b)
parted (Err f) next b e = cc
parted (Ok a) next b e = (a, refl, e)

-- a proof that is found assumes what it is told to, where no name is free that must not be
pub fresh_found : (x : List ℕ) (others s t : List Statement) → if_fresh x others s ≡ Ok t → (is_free_among x others ≡ false) × (s ≡ t)
fresh_found x others s t e = by (is_free_among x others) refl
  where
    by : (b : Bool) → is_free_among x others ≡ b → (is_free_among x others ≡ false) × (s ≡ t)
    by true is = let wrong : ◌≡◌ {A = Found} (Err (NotFresh x)) (Ok t) = sym (ap (λ b. cond b (Err (NotFresh x)) (Ok s)) is) ∙ e in cc
    by false is = (is, same_found (sym (ap (λ b. cond b (Err (NotFresh x)) (Ok s)) is) ∙ e))

module _ (sub : Term → Formula → Scoped → Found) (scope : Scoped) where
  -- what a part comes to
  abbrev pub at : Part → Found
  at p = sub p.term p.goal (inside p.own scope)

  pub part_ok : (p : Part) (s : List Statement) → at p ≡ Ok s
      → of_part sub scope p ≡ Ok (remaining p.own s)
  part_ok p s e = then_ok (λ s. Ok (remaining p.own s)) e

  -- what follows the first part of a rule with two parts
  abbrev pub after_one : Formula → Binary → Part → Part → List Statement → Found
  after_one goal rule p q s = and_then (of_part sub scope q)
      (by_two rule (meaning p.goal) (meaning goal) s)

  -- and of a rule with three the second, and the first
  abbrev pub third : Part → List Statement → List Statement → Found
  third r s t = and_then (of_part sub scope r) (by_three s t)

  abbrev pub second : Part → Part → List Statement → Found
  second q r s = and_then (of_part sub scope q) (third r s)
