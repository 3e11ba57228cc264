-- Sources with a scalar that marks up or is not in ASCII: no error quotes it (this project's own).
use Rattle.std.specs.Prelude.{◌≡◌, [], ◌∷◌, ◌++◌, codes}
use Rattle.isar_rules.specs.Errors.{malformed}
use Rattle.isar_rules.specs.Forks.{fork}
use Rattle.isar_rules.specs.Kept.{errors_in}
use Rattle.isar_rules.specs.Small.{errors, at_start, in_theory, in_prove}

-- in a name, in a blob's name, in a formula, as an escape in a formula, and in a proof
pub record OddSources : Type 0 where
  pub theory : errors (codes "theory A" ++ 233 ∷ codes " begin") at_start ≡ malformed ∷ []
  pub name : errors (codes "axiom a" ++ 5 ∷ codes ": \"P\"") in_theory ≡ malformed ∷ []
  pub blob : errors (codes "load \"a" ++ 6 ∷ codes "\"") in_theory ≡ malformed ∷ []
  pub formula : errors (codes "axiom a: \"P" ++ 5 ∷ codes "\"") in_theory
      ≡ codes "bad formula at 1" ∷ []
  pub escape : errors (codes "axiom a: \"P\\005\"") in_theory ≡ codes "bad formula at 1" ∷ []
  pub proof : errors_in (fork (codes "by a" ++ 233 ∷ []) in_prove) ≡ codes "malformed proof" ∷ []
