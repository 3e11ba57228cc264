-- What more things leave as they are, whatever they are.
use Rattle.std.proofs.Common.{◌≡◌, ℕ, ◌≤◌, List, [], ◌∷◌, length, refl, ◌∙◌, arith}
use Rattle.core_rules.specs.Numbered.{numbered, grown}
use Rattle.core_rules.proofs.KnownNumbers.{numbered_more}

pub number_grown : {A : Type 0} (xs more : List A) (e : ℕ) → e ≤ length xs → numbered (grown xs more) e ≡ numbered xs e
number_grown xs [] e le = refl
number_grown xs (x ∷ more) e le = number_grown (x ∷ xs) more e (omega (arith, le)) ∙ numbered_more xs x e le
