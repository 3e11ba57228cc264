-- The printed name of a quantifier is found by the search for the least number of primes.
use Rattle.std.proofs.Common.{◌≡◌, ◌≤◌, ◌<◌, ◌+◌, ℕ, zero, suc, Bool, true, false, List, length, replicate, ap, sym, ◌∙◌, arith, ⊎_elim, length-append}
use Rattle.std.proofs.lemmas.Bool.{cases_lt, cases_eq, cond-true, cond-false}
use Rattle.std.proofs.lemmas.List.{length-replicate}
use Rattle.nj_formula.specs.Statement.{Statement}
use Rattle.nj_syntax.specs.Primed.{is_shown, with_primes, IsPrimed}
use Rattle.nj_syntax.specs.Printed.{longest, least_failing, primed}
use Rattle.nj_syntax.proofs.TextLengths.{shown_length}

-- the search finds the first number that fails, if it goes as far
pub least_is : (test : ℕ → Bool) (fuel from k : ℕ) → from ≤ k → k ≤ from + fuel → test k ≡ false
    → ((m : ℕ) → from ≤ m → m < k → test m ≡ true) → least_failing test from fuel ≡ k
least_is test zero from k above below fails passes = omega arith
least_is test (suc fuel) from k above below fails passes =
    ⊎_elim
    (λ same. cond-false (test from) (least_failing test (from + 1) fuel) from (ap test same ∙ fails) ∙ same)
    (λ other. cond-true (test from) (least_failing test (from + 1) fuel) from (passes from (omega arith) (omega arith))
    ∙ least_is test fuel (from + 1) k (omega arith) (omega arith) fails (λ m low high. passes m (omega arith) high))
    (cases_eq from k)

module _ (names : List (List ℕ)) (x : List ℕ) (body : Statement) where
  -- a name with more primes than all names are long isn't shown
  few_primes : (k : ℕ) → ((m : ℕ) → m < k → is_shown (with_primes x m) names 1 body ≡ true) → k ≤ longest names body + 1
  few_primes k shown =
      ⊎_elim (λ many. absurd (too_long (shown (longest names body + 1) many))) (λ few. few) (cases_lt (longest names body + 1) k)
    where
      too_long : is_shown (with_primes x (longest names body + 1)) names 1 body ≡ true → ⊥
      too_long is =
          let long : length (with_primes x (longest names body + 1)) ≡ length x + (longest names body + 1) =
          length-append x (replicate (longest names body + 1) 39) ∙ ap (λ n. length x + n) (length-replicate (longest names body + 1) 39) in
          omega (arith, long, shown_length (with_primes x (longest names body + 1)) names 1 body is)

  pub primed_is : (y : List ℕ) → IsPrimed names x body y → y ≡ primed names x body
  primed_is y is =
      is.is ∙ ap (with_primes x) (sym (least_is (λ k. is_shown (with_primes x k) names 1 body) (longest names body + 1) 0 is.primes
      (omega arith) (omega (arith, few_primes is.primes is.least)) (ap (λ z. is_shown z names 1 body) (sym is.is) ∙ is.free_of) (λ m low high. is.least m high)))
