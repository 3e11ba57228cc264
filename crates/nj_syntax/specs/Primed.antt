-- The printed name of a quantifier: no name that its body shows is captured (this project's own).
use Rattle.std.specs.Prelude.{◌≡◌, ◌<◌, ◌+◌, ◌-◌, ℕ, nat_le, Bool, false, ◌||◌, ◌&&◌, IsTrue, List, ◌++◌, map, replicate}
use Rattle.std.specs.List.{list_any}
use Rattle.std.specs.Str.{bytes_eq}
use Rattle.nj_formula.specs.declared.argument.Argument.{Argument, fold-Argument}
use Rattle.nj_formula.specs.declared.argument.Argument.TheOpen.{Argument-F}
use Rattle.nj_formula.specs.Statement.{Statement, falsity, atom, neg, conj, disj, implies, every, exists}
use Rattle.nj_syntax.specs.ArgumentText.{name_at}

-- one layer: a free name, or the printed name of a place that is bound outside of the d innermost
-- quantifiers
abbrev pub shown_layer : List ℕ → List (List ℕ) → ℕ → Argument-F Bool → Bool
shown_layer y names d (Argument-F.Free x) = bytes_eq x y
shown_layer y names d (Argument-F.Bound place) =
    nat_le d place && bytes_eq (name_at names (place - d)) y
shown_layer y names d (Argument-F.Apply function arguments) = list_any (λ shown. shown) arguments

-- the name stands in the argument, which is under d quantifiers more than the names
abbrev pub is_shown_in : List ℕ → List (List ℕ) → ℕ → Argument → Bool
is_shown_in y names d = fold-Argument Bool (shown_layer y names d)

-- the name is free in what is printed under these names and d quantifiers more
abbrev pub is_shown : List ℕ → List (List ℕ) → ℕ → Statement → Bool
is_shown y names d falsity = false
is_shown y names d (atom predicate arguments) =
    list_any (λ shown. shown) (map (is_shown_in y names d) arguments)
is_shown y names d (neg a) = is_shown y names d a
is_shown y names d (conj a b) = is_shown y names d a || is_shown y names d b
is_shown y names d (disj a b) = is_shown y names d a || is_shown y names d b
is_shown y names d (implies a b) = is_shown y names d a || is_shown y names d b
is_shown y names d (every body) = is_shown y names (d + 1) body
is_shown y names d (exists body) = is_shown y names (d + 1) body

-- the name with this number of `'` after it
abbrev pub with_primes : List ℕ → ℕ → List ℕ
with_primes x primes = x ++ replicate primes 39

-- y is x with the least number of `'` with which it is not free in the body of its quantifier
pub record IsPrimed (names : List (List ℕ)) (x : List ℕ) (body : Statement)
    (y : List ℕ) : Type 0 where
  pub primes : ℕ
  pub is : y ≡ with_primes x primes
  pub free_of : is_shown y names 1 body ≡ false
  pub least : (fewer : ℕ) → fewer < primes → IsTrue (is_shown (with_primes x fewer) names 1 body)
