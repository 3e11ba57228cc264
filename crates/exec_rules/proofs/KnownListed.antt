-- Which print a row lists.
use Rattle.std.proofs.Common.{◌≡◌, ◌⊎◌, inl, inr, ℕ, true, false, Option, Some, None, ap, sym}
use Rattle.std.proofs.lemmas.Bool.{eqb-true, or_cases}
use Rattle.std.specs.Prelude.{◌==◌}
use Rattle.exec_rules.specs.Listed.{print_list}
use Rattle.text_words.specs.Members.{has}

-- it lists just the one that it has
pub in_print : (o : Option ℕ) (e : ℕ) → has (print_list o) e ≡ true → o ≡ Some e
in_print None e is = absurd (cc)
in_print (Some q) e is = go (or_cases (e == q) false is)
  where
    go : ((e == q) ≡ true) ⊎ (false ≡ true) → Some q ≡ Some e
    go (inl same) = ap (λ x. Some x) (sym (eqb-true e q same))
    go (inr bad) = absurd (cc)
