-- A part is checked in the scope with its own assumption.
use Rattle.std.proofs.Common.{◌≡◌, ◌∷◌, ℕ, drop, Option, Some, None, Result, Ok, Err, OnOk, sym, ◌∙◌, ap, subst}
use Rattle.nj_formula.specs.declared.formula.Formula.{Formula}
use Rattle.nj_kernel.specs.declared.thm.Thm.{Thm}
use Rattle.theory_ctx.specs.declared.local.Local.{Local}
use Rattle.theory_ctx.specs.Locals.{Scoped, Nested, seen}
use Rattle.proof_checks.specs.declared.halt.Halt.{Halt}
use Rattle.proof_checks.specs.Answers.{Asked}
use Rattle.proof_checks.specs.Scopes.{inside}

pub none_inside : (own : Option Local) (scope : Scoped) → own ≡ None → scope ≡ inside own scope
none_inside own scope is = sym (ap (λ o. inside o scope) is)

-- what is pushed stands inside all else
pub some_inside : (own : Option Local) (l : Local) (formula : Formula) (old new : Nested) → own ≡ Some l → formula ≡ l.formula
    → new ≡ record old { own = record { name = l.name; formula = formula } ∷ old.own } → seen new ≡ inside own (seen old)
some_inside own l formula old new is copied pushed =
    ap seen pushed ∙ (ap (λ f. seen (record old { own = record { name = l.name; formula = f } ∷ old.own })) copied ∙ sym (ap (λ o. inside o (seen old)) is))

-- the scope is as it was before what was pushed
pub handed_back : (given result : Result Thm Halt) (old new first pushed : Nested) (l : Local) → result ≡ given
    → OnOk result (new ≡ record old { own = drop 1 old.own }) → OnOk given (old ≡ pushed)
    → pushed ≡ record first { own = l ∷ first.own } → OnOk result (new ≡ first)
handed_back given (Err h) old new first pushed l on back same is = tt
handed_back given (Ok t) old new first pushed l on back same is =
    let here : old ≡ pushed = subst (λ r. OnOk r (old ≡ pushed)) (sym on) same in
    back ∙ ap (λ (s : Nested). record s { own = drop 1 s.own }) (here ∙ is)

pub handed_asks : (given result : Result Thm Halt) (before now : ℕ) → result ≡ given → Asked given before now → Asked result before now
handed_asks given result before now on told = subst (λ r. Asked r before now) (sym on) told
