-- A proof that is suggested can be written, where the facts of the blocks can be cited.
use Rattle.std.proofs.Common.{◌≡◌, ℕ, zero, suc, Bool, true, false, not, cond, List, [], ◌∷◌, take, bytes_eq, Some, lit≤}
use Rattle.std.specs.List.{AllByRecursion}
use Rattle.nj_formula.specs.declared.formula.Formula.{Formula}
use Rattle.nj_syntax.specs.Readable.{IsReadable}
use Rattle.theory_ctx.specs.declared.local.Local.{Local}
use Rattle.proof_terms.specs.declared.term.Term.{Term}
use Rattle.suggest_rules.specs.Names.{others, unhidden, citable}
use Rattle.suggest_rules.specs.Search.{suggested}
use Rattle.soundness_laws.specs.Citable.{IsCitable}
use Rattle.soundness_laws.proofs.FoundWritten.{within_written}
use Rattle.soundness_laws.proofs.Written.{IsWritten}

module _ (P : Local → Type 0) where
  each_other : (name : List ℕ) (locals : List Local) → AllByRecursion P locals → AllByRecursion P (others name locals)
  each_other name [] all = tt
  each_other name (local ∷ locals) all = go (each_other name locals all.1) (bytes_eq local.name name)
    where
      go : AllByRecursion P (others name locals) → (b : Bool) → AllByRecursion P (cond (not b) (local ∷ others name locals) (others name locals))
      go more true = more
      go more false = (all.0, more)

  each_unhidden : (locals : List Local) → AllByRecursion P locals → AllByRecursion P (unhidden locals)
  each_unhidden [] all = tt
  each_unhidden (local ∷ locals) all = (all.0, each_other local.name (unhidden locals) (each_unhidden locals all.1))

  each_front : (n : ℕ) (locals : List Local) → AllByRecursion P locals → AllByRecursion P (take n locals)
  each_front zero locals all = tt
  each_front (suc n) [] all = tt
  each_front (suc n) (local ∷ locals) all = (all.0, each_front n locals all.1)

-- with at most so many nested rules as a term that is read
pub suggested_written : (goal : Formula) (locals : List Local) (aliases : List (List ℕ)) (t : Term) → IsReadable goal → AllByRecursion (IsCitable aliases) locals
    → suggested goal locals aliases ≡ Some t → IsWritten aliases 200 t
suggested_written goal locals aliases t readable all e =
    within_written aliases 4 200 (lit≤ tt) (citable locals) (each_front (IsCitable aliases) 16 (unhidden locals) (each_unhidden (IsCitable aliases) locals all)) goal readable t e
