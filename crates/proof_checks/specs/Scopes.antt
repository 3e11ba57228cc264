-- Scopes of a term's parts, and what stands in a scope.
use Rattle.std.specs.Prelude.{◌∷◌, List, map, Option, Some, None}
use Rattle.nj_formula.specs.Meaning.{meaning}
use Rattle.nj_formula.specs.Statement.{Statement}
use Rattle.nj_kernel.specs.Sets.{members, ◌∪◌}
use Rattle.theory_ctx.specs.declared.local.Local.{Local}
use Rattle.theory_ctx.specs.Locals.{Scoped}
use Rattle.proof_checks.specs.Statements.{without}

-- the scope with one more assumption, where there is one
abbrev pub inside : Option Local → Scoped → Scoped
inside None scope = scope
inside (Some own) scope = record scope { locals = own ∷ scope.locals }

-- the statements but for this assumption
abbrev pub remaining : Option Local → List Statement → List Statement
remaining None s = s
remaining (Some own) s = without (meaning own.formula) s

-- a fact of the scope says the statement: a local one, or one that the theory sees
abbrev pub Stands : Scoped → Statement → Type 0
Stands scope = members (map (λ local. meaning local.formula) scope.locals)
    ∪ members (map (λ fact. meaning fact.1) scope.facts)
