-- A rule has the same answer where its parts have, and the goals say the same.
use Rattle.std.proofs.Common.{◌≡◌, ℕ, List, ◌∷◌, Some, Ok, ap, sym, ◌∙◌}
use Rattle.nj_formula.specs.declared.formula.Formula.{Formula}
use Rattle.nj_formula.specs.declared.formula.Formula.TheVariants as F
use Rattle.nj_formula.specs.Meaning.{meaning}
use Rattle.nj_formula.specs.Statement.{neg, conj, disj, implies}
use Rattle.nj_formula.proofs.KnownMeaning.{meaning-Not, meaning-And, meaning-Or, meaning-Implies}
use Rattle.theory_ctx.specs.declared.local.Local.{Local}
use Rattle.theory_ctx.specs.Locals.{Scoped}
use Rattle.proof_terms.specs.declared.term.Term.{Term}
use Rattle.proof_checks.specs.Checks.{Found, and_then, discharged, checked_within}
use Rattle.proof_checks.specs.Statements.{without}
use Rattle.soundness_laws.specs.Alike.{IsAlike, SayAlike}

-- terms that are alike have the same answer where at most so many rules are nested
abbrev pub Answers : ℕ → Type 0
Answers n = (t u : Term) (goal other : Formula) (scope : Scoped) (locals : List Local) → IsAlike t u → meaning goal ≡ meaning other → SayAlike scope.locals locals
    → checked_within n t goal scope ≡ checked_within n u other (record scope { locals = locals })

-- two formulas of one form say the same where their parts do
pub same_not : (a c : Formula) → meaning a ≡ meaning c → meaning (F.Not a) ≡ meaning (F.Not c)
same_not a c e = meaning-Not a ∙ (ap neg e ∙ sym (meaning-Not c))

pub same_and : (a b c d : Formula) → meaning a ≡ meaning c → meaning b ≡ meaning d → meaning (F.And a b) ≡ meaning (F.And c d)
same_and a b c d e f = meaning-And a b ∙ ((λ i. conj (e i) (f i)) ∙ sym (meaning-And c d))

pub same_or : (a b c d : Formula) → meaning a ≡ meaning c → meaning b ≡ meaning d → meaning (F.Or a b) ≡ meaning (F.Or c d)
same_or a b c d e f = meaning-Or a b ∙ ((λ i. disj (e i) (f i)) ∙ sym (meaning-Or c d))

pub same_implies : (a b c d : Formula) → meaning a ≡ meaning c → meaning b ≡ meaning d → meaning (F.Implies a b) ≡ meaning (F.Implies c d)
same_implies a b c d e f = meaning-Implies a b ∙ ((λ i. implies (e i) (f i)) ∙ sym (meaning-Implies c d))

-- a part whose own assumption says the same
pub part_alike : (x y : List ℕ) (a c : Formula) (p q : Found) → meaning a ≡ meaning c → p ≡ q
    → discharged (Some (record { name = x; formula = a })) p ≡ discharged (Some (record { name = y; formula = c })) q
part_alike x y a c p q e f = λ i. and_then (f i) (λ s. Ok (without (e i) s))

module _ (n : ℕ) (parts : Answers n) (goal other : Formula) (scope : Scoped) (locals : List Local) (alike : SayAlike scope.locals locals) where
  abbrev pub there : Scoped
  there = record scope { locals = locals }

  -- a part
  pub plain : (t u : Term) (a c : Formula) → IsAlike t u → meaning a ≡ meaning c → checked_within n t a scope ≡ checked_within n u c there
  plain t u a c like e = parts t u a c scope locals like e alike

  -- a part under an assumption
  pub assumed : (x y : List ℕ) (own its : Formula) (t u : Term) (a c : Formula) → x ≡ y → meaning own ≡ meaning its → IsAlike t u → meaning a ≡ meaning c
      → checked_within n t a (record scope { locals = record { name = x; formula = own } ∷ scope.locals })
      ≡ checked_within n u c (record scope { locals = record { name = y; formula = its } ∷ locals })
  assumed x y own its t u a c names says like e =
      parts t u a c (record scope { locals = record { name = x; formula = own } ∷ scope.locals }) (record { name = y; formula = its } ∷ locals) like e (names, says, alike)
