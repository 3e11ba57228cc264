-- What a rule's parts are found to assume, and what the rule then is.
use Rattle.std.proofs.Common.{◌≡◌, ℕ, Bool, true, false, cond, IsTrue, List, ◌++◌, Result, Ok}
use Rattle.std.proofs.Common.{Err, refl, sym, ◌∙◌, ap}
use Rattle.nj_formula.specs.declared.formula.Formula.{Formula}
use Rattle.nj_formula.specs.Meaning.{meaning}
use Rattle.nj_formula.specs.Statement.{Statement}
use Rattle.proof_terms.specs.declared.fault.TermFault.{TermFault}
use Rattle.proof_terms.specs.declared.fault.TermFault.TheVariants.{NotFresh}
use Rattle.proof_terms.specs.declared.term.Term.{Term}
use Rattle.theory_ctx.specs.Locals.{Scoped}
use Rattle.proof_checks.specs.declared.step.Part.{Part}
use Rattle.proof_checks.specs.declared.step.Step.TheVariants.{One, Two, Three}
use Rattle.proof_checks.specs.declared.step.Unary.{Unary}
use Rattle.proof_checks.specs.declared.step.Binary.{Binary}
use Rattle.proof_checks.specs.Checks.{Found, and_then, if_fresh, by_one, by_two, by_three}
use Rattle.proof_checks.specs.Checks.{of_part, of_step}
use Rattle.proof_checks.specs.Scopes.{remaining}
use Rattle.proof_checks.specs.Statements.{is_free_among}
use Rattle.proof_checks.proofs.KnownFound.{parted, same_found, then_ok, after_one, at, part_ok, second, third}

-- what is listed one after the other, each by another name
each_same : {a b c r s t : List Statement} → a ≡ r → b ≡ s → c ≡ t → a ++ b ++ c ≡ r ++ s ++ t
each_same {a} {b} {c} {r} {s} {t} i j k = ap (λ x. x ++ b ++ c) i
    ∙ (ap (λ x. r ++ x ++ c) j ∙ ap (λ x. r ++ s ++ x) k)

-- a condition that does not fail holds
pub chosen : {A B : Type 0} (b : Bool) (a : A) (f : TermFault) (next : A → Result B TermFault)
    (r : B) → and_then (cond b (Ok a) (Err f)) next ≡ Ok r → IsTrue b × (next a ≡ Ok r)
chosen true a f next r e = (refl, e)
chosen false a f next r e = cc

pub found_fresh : (x : List ℕ) (others s : List Statement) → is_free_among x others ≡ false
    → if_fresh x others s ≡ Ok s
found_fresh x others s fresh = ap (λ b. cond b (Err (NotFresh x)) (Ok s)) fresh

module _ (sub : Term → Formula → Scoped → Found) (scope : Scoped) where
  -- what a part is found to assume, with its own assumption
  part_back : (p : Part) (s : List Statement) → of_part sub scope p ≡ Ok s → (a : List Statement)
      × (at sub scope p ≡ Ok a) × (remaining p.own a ≡ s)
  part_back p s e = let w = parted (at sub scope p) (λ t. Ok (remaining p.own t)) s e in
      (w.0, w.1, same_found w.2)

  module _ (goal : Formula) where
    pub one_ok : (rule : Unary) (p : Part) (s : List Statement) → at sub scope p ≡ Ok s
        → of_step sub scope goal (One rule p) ≡ by_one rule (meaning goal) (remaining p.own s)
    unfolding of_step
    one_ok rule p s e = then_ok (by_one rule (meaning goal)) (part_ok sub scope p s e)

    pub two_ok : (rule : Binary) (p q : Part) (s t : List Statement) → at sub scope p ≡ Ok s
        → at sub scope q ≡ Ok t → of_step sub scope goal (Two rule p q)
        ≡ by_two rule (meaning p.goal) (meaning goal) (remaining p.own s) (remaining q.own t)
    unfolding of_step
    two_ok rule p q s t e h =
        then_ok (after_one sub scope goal rule p q) (part_ok sub scope p s e)
        ∙ then_ok (by_two rule (meaning p.goal) (meaning goal) (remaining p.own s))
        (part_ok sub scope q t h)

    pub three_ok : (p q r : Part) (s t u : List Statement) → at sub scope p ≡ Ok s
        → at sub scope q ≡ Ok t → at sub scope r ≡ Ok u
        → of_step sub scope goal (Three p q r)
        ≡ Ok (remaining p.own s ++ remaining q.own t ++ remaining r.own u)
    unfolding of_step
    three_ok p q r s t u e h k =
        then_ok (second sub scope q r) (part_ok sub scope p s e)
        ∙ (then_ok (third sub scope r (remaining p.own s)) (part_ok sub scope q t h)
        ∙ then_ok (by_three (remaining p.own s) (remaining q.own t)) (part_ok sub scope r u k))

    pub one_back : (rule : Unary) (p : Part) (s : List Statement)
        → of_step sub scope goal (One rule p) ≡ Ok s
        → (a : List Statement) × (at sub scope p ≡ Ok a)
        × (by_one rule (meaning goal) (remaining p.own a) ≡ Ok s)
    unfolding of_step
    one_back rule p s e =
        let w = parted (of_part sub scope p) (by_one rule (meaning goal)) s e in
        let i = part_back p w.0 w.1 in
        (i.0, i.1, ap (by_one rule (meaning goal)) i.2 ∙ w.2)

    pub two_back : (rule : Binary) (p q : Part) (s : List Statement)
        → of_step sub scope goal (Two rule p q) ≡ Ok s
        → (a : List Statement) × (b : List Statement)
        × (at sub scope p ≡ Ok a) × (at sub scope q ≡ Ok b)
        × (by_two rule (meaning p.goal) (meaning goal) (remaining p.own a)
        (remaining q.own b) ≡ Ok s)
    unfolding of_step
    two_back rule p q s e =
        let w = parted (of_part sub scope p) (after_one sub scope goal rule p q) s e in
        let v = parted (of_part sub scope q)
        (by_two rule (meaning p.goal) (meaning goal) w.0) s w.2 in
        let i = part_back p w.0 w.1 in
        let j = part_back q v.0 v.1 in (
          i.0,
          j.0,
          i.1,
          j.1,
          ap (λ k. by_two rule (meaning p.goal) (meaning goal) k (remaining q.own j.0)) i.2
              ∙ (ap (by_two rule (meaning p.goal) (meaning goal) w.0) j.2 ∙ v.2),
        )

    pub three_back : (p q r : Part) (s : List Statement)
        → of_step sub scope goal (Three p q r) ≡ Ok s
        → (a : List Statement) × (b : List Statement) × (c : List Statement)
        × (at sub scope p ≡ Ok a) × (at sub scope q ≡ Ok b) × (at sub scope r ≡ Ok c)
        × (remaining p.own a ++ remaining q.own b ++ remaining r.own c ≡ s)
    unfolding of_step
    three_back p q r s e =
        let w = parted (of_part sub scope p) (second sub scope q r) s e in
        let v = parted (of_part sub scope q) (third sub scope r w.0) s w.2 in
        let u = parted (of_part sub scope r) (by_three w.0 v.0) s v.2 in
        let i = part_back p w.0 w.1 in
        let j = part_back q v.0 v.1 in
        let k = part_back r u.0 u.1 in
        (i.0, j.0, k.0, i.1, j.1, k.1, each_same i.2 j.2 k.2 ∙ same_found u.2)
