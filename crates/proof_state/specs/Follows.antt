-- What follows from given statements by natural deduction (Gentzen 1935).
use Rattle.std.specs.Prelude.{List, map}
use Rattle.nj_formula.specs.Meaning.{meaning}
use Rattle.nj_formula.specs.Statement.{Statement}
use Rattle.nj_kernel.specs.Nj.{Nj}
use Rattle.nj_kernel.specs.Sets.{members, ◌∪◌}
use Rattle.theory_ctx.specs.Facts.{Fact}
use Rattle.proof_state.specs.declared.levels.Levels.{Levels}
use Rattle.proof_state.specs.Locals.{locals_of}

-- f is derived from finitely many statements of which P holds
abbrev pub Follows : (Statement → Type 0) → Statement → Type 0
Follows P f = (s : List Statement) × ((g : Statement) → members s g → P g) × Nj s f

-- a fact of the context says the statement
abbrev pub IsFact : List Fact → Statement → Type 0
IsFact facts = members (map (λ fact. meaning fact.1) facts)

-- a fact that can be cited here says the statement: a local one, or one of the context
abbrev pub IsInScope : List Fact → Levels → Statement → Type 0
IsInScope facts levels =
    members (map (λ local. meaning local.formula) (locals_of levels)) ∪ IsFact facts
