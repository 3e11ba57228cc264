-- One prime more, after a name that is shown.
use Rattle.std.proofs.Common.{◌≡◌, ◌<◌, ◌+◌, ◌-◌, ℕ, true, IsTrue, List, [], ◌∷◌, ◌++◌, replicate, length, ap, subst, ◌∙◌, arith, append_assoc, length-append, below_more}
use Rattle.std.proofs.lemmas.List.{replicate-append-replicate}
use Rattle.nj_formula.specs.Statement.{Statement}
use Rattle.nj_syntax.specs.Primed.{is_shown, with_primes}
use Rattle.nj_syntax.proofs.LengthLemmas.{room, length_shown}

module _ (x : List ℕ) (names : List (List ℕ)) (body : Statement) (old new : List ℕ) (added : new ≡ old ++ 39 ∷ []) (shown : is_shown old names 1 body ≡ true) where
  pub fewer_left : room names body + 1 - length new < room names body + 1 - length old
  fewer_left =
      let longer : length new ≡ length old + 1 = ap length added ∙ length-append old (39 ∷ []) in
      omega (arith, longer, length_shown old names 1 body shown)

  pub one_prime_more : (k : ℕ) → old ≡ with_primes x k → new ≡ with_primes x (k + 1)
  one_prime_more k is =
      added ∙ (ap (λ t. t ++ 39 ∷ []) is ∙ (append_assoc x (replicate k 39) (39 ∷ []) ∙ ap (λ t. x ++ t) (replicate-append-replicate k 1 39)))

  pub still_least : (k : ℕ) → old ≡ with_primes x k → ((fewer : ℕ) → fewer < k → IsTrue (is_shown (with_primes x fewer) names 1 body))
      → (fewer : ℕ) → fewer < k + 1 → IsTrue (is_shown (with_primes x fewer) names 1 body)
  still_least k is below = below_more (λ n. IsTrue (is_shown (with_primes x n) names 1 body)) k below (subst (λ y. IsTrue (is_shown y names 1 body)) is shown)
