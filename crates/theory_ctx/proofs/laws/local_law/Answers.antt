-- A local fact is the one of its name.
use Rattle.std.proofs.Common.{◌≡◌, Bool, true, false, cond, ◌∷◌, find, Some, refl, sym, ◌∙◌, ap}
use Rattle.std.specs.Str.{bytes_eq}
use Rattle.std.proofs.lemmas.Cmp.{nat_list_eq_equiv}
use Rattle.std.proofs.lemmas.Slice.Eq.{bytes_eq-Decides}
use Rattle.theory_ctx.specs.Looked.{looked}
use Rattle.theory_ctx.specs.Locals.{local_of, local_first}
use Rattle.theory_ctx.proofs.laws.local_law.Goals as goal

pub returns-clause-innermost : goal.returns-clause-innermost
returns-clause-innermost c scope local name plain =
    ap (λ parts. local_first (local_of (local ∷ scope.locals) parts) (looked scope.facts scope.theory name)) plain
    ∙ ap (λ b. local_first (cond b (Some local) (find (λ other. bytes_eq other.name local.name) scope.locals)) (looked scope.facts scope.theory name))
    (nat_list_eq_equiv.refl local.name)

pub returns-clause-others : goal.returns-clause-others
returns-clause-others c scope local name n plain other =
    ap (λ parts. local_first (local_of (local ∷ scope.locals) parts) (looked scope.facts scope.theory name)) plain
    ∙ ap (λ b. local_first (cond b (Some local) (find (λ other. bytes_eq other.name n) scope.locals)) (looked scope.facts scope.theory name))
    (go (bytes_eq local.name n) refl)
    ∙ sym (ap (λ parts. local_first (local_of scope.locals parts) (looked scope.facts scope.theory name)) plain)
  where
    go : (b : Bool) → bytes_eq local.name n ≡ b → b ≡ false
    go true e = absurd (other ((bytes_eq-Decides local.name n).0 e))
    go false e = refl

pub returns-clause-long : goal.returns-clause-long
returns-clause-long c scope name t n long =
    ap (λ parts. local_first (local_of scope.locals parts) (looked scope.facts scope.theory name)) long
