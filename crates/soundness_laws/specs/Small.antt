-- Small proofs by the rules, and terms that are none (this project's own).
use Rattle.std.specs.Prelude.{ℕ, List, [], ◌∷◌, codes}
use Rattle.nj_formula.specs.declared.argument.Argument.{Argument}
use Rattle.nj_formula.specs.declared.argument.Argument.TheVariants.{Free, Bound}
use Rattle.nj_formula.specs.declared.formula.Formula.{Formula}
use Rattle.nj_formula.specs.declared.formula.Formula.TheVariants.{Atom, And, Implies, All}
use Rattle.nj_formula.specs.Statement.{Statement}
use Rattle.theory_ctx.specs.declared.local.Local.{Local}
use Rattle.theory_ctx.specs.Locals.{Scoped}
use Rattle.proof_terms.specs.declared.term.Term.{Term}
use Rattle.proof_terms.specs.declared.term.Term.TheVariants.{Fact, ImpI, ConjI, ConjE1, ConjE2}
use Rattle.proof_terms.specs.declared.term.Term.TheVariants.{AllI}
use Rattle.soundness_laws.specs.Proofs.{TermProves}

-- a proposition
abbrev pub prop : List ℕ → Formula
prop x = Atom x []

-- `P & Q --> Q & P`
abbrev pub swap : Formula
swap =
    Implies (And (prop (codes "P")) (prop (codes "Q"))) (And (prop (codes "Q")) (prop (codes "P")))

-- `P` of a term
abbrev pub holds_of : Argument → Formula
holds_of term = Atom (codes "P") (term ∷ [])

-- `ALL y. P(y)`
abbrev pub holds_of_all : Formula
holds_of_all = All (codes "y") (holds_of (Bound 0))

-- the fact h, which stands nowhere
abbrev pub fact : Term
fact = Fact (record { name = codes "h"; range = record { start = 0; stop = 0 } })

-- the proof of that
abbrev pub swapping : Term
swapping =
    ImpI (codes "h") (ConjI (ConjE2 (prop (codes "P")) fact) (ConjE1 (prop (codes "Q")) fact))

-- a scope with no facts but these local ones
abbrev pub scope_of : List Local → Scoped
scope_of locals = record { locals = locals; theory = codes "A"; facts = [] }

-- the local fact h, which says `P(x)`
abbrev pub says_x : Local
says_x = record { name = codes "h"; formula = holds_of (Free (codes "x")) }

-- swapping is proved by three nested rules and no fewer; the other two terms prove nothing
pub record SmallProofs : Type 0 where
  pub swaps : TermProves 3 (scope_of []) swapping swap []
  pub nested : (s : List Statement) → ¬ TermProves 2 (scope_of []) swapping swap s
  pub unknown : (s : List Statement) → ¬ TermProves 0 (scope_of []) fact (prop (codes "P")) s
  pub not_fresh : (s : List Statement)
      → ¬ TermProves 1 (scope_of (says_x ∷ [])) (AllI (codes "x") fact) holds_of_all s
