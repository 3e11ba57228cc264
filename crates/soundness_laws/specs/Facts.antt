-- What the facts of a theory rest on (natural deduction, Gentzen 1935).
use Rattle.std.specs.Prelude.{List, IfSome}
use Rattle.nj_formula.specs.Meaning.{meaning}
use Rattle.nj_formula.specs.Statement.{Statement}
use Rattle.shared_map.specs.Pairs.{Each}
use Rattle.theory_ctx.specs.Facts.{Fact}
use Rattle.proof_state.specs.Follows.{Follows}
use Rattle.isar_rules.specs.declared.state.State.{State}
use Rattle.isar_rules.specs.Starts.{facts_at}

-- each of the facts is derived from finitely many statements of which P holds
abbrev pub AllFollow : (Statement → Type 0) → List Fact → Type 0
AllFollow P = Each (λ fact. ∥ Follows P (meaning fact.1) ∥₁)

-- the same of the facts of the theory that a state is in
abbrev pub FactsFollow : (Statement → Type 0) → State → Type 0
FactsFollow P state = IfSome (facts_at state.place) (AllFollow P)
