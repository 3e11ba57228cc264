-- Truth of statements in a structure (Tarski 1933).
use Rattle.std.specs.Prelude.{ℕ, List, ◌∷◌, ◌⊎◌, map, slice_index_or, if◌then◌else◌}
use Rattle.std.specs.Str.{bytes_eq}
use Rattle.nj_formula.specs.declared.argument.Argument.{Argument, fold-Argument}
use Rattle.nj_formula.specs.declared.argument.Argument.TheOpen.{Argument-F}
use Rattle.nj_formula.specs.Statement.{Statement, falsity, atom, neg, conj, disj, implies}
use Rattle.nj_formula.specs.Statement.{every, exists}

-- which point of the domain each free name is, and each place that nothing binds: such a place is a
-- constant of its own, known by its number, however many quantifiers stand around it
pub record Assignment (D : Type 0) : Type 0 where
  pub of_name : List ℕ → D
  pub of_place : ℕ → D

-- the same, but for one name
abbrev pub renamed : {D : Type 0} → Assignment D → List ℕ → D → Assignment D
renamed v x d = record v { of_name = λ y. if bytes_eq y x then d else v.of_name y }

module _ {D : Type 0} (apply : List ℕ → List D → D) (v : Assignment D) where
  -- one layer of an argument's point; `bound` has the points of bound places, the innermost first
  abbrev pub point_layer : List D → Argument-F D → D
  point_layer bound (Argument-F.Free x) = v.of_name x
  point_layer bound (Argument-F.Bound place) = slice_index_or bound place (v.of_place place)
  point_layer bound (Argument-F.Apply function arguments) = apply function arguments

  -- the point that an argument is
  abbrev pub point : List D → Argument → D
  point bound = fold-Argument D (point_layer bound)

-- what the statement claims of the domain; `apply` is the meaning of functions, `holds` that of
-- predicates
abbrev pub truth : {D : Type 0} → (List ℕ → List D → D) → (List ℕ → List D → Type 0)
    → Assignment D → List D → Statement → Type 0
truth apply holds v bound falsity = ⊥
truth apply holds v bound (atom predicate arguments) =
    holds predicate (map (point apply v bound) arguments)
truth apply holds v bound (neg a) = truth apply holds v bound a → ⊥
truth apply holds v bound (conj a b) = truth apply holds v bound a × truth apply holds v bound b
truth apply holds v bound (disj a b) = truth apply holds v bound a ⊎ truth apply holds v bound b
truth apply holds v bound (implies a b) = truth apply holds v bound a → truth apply holds v bound b
truth {D} apply holds v bound (every body) = (d : D) → truth apply holds v (d ∷ bound) body
truth {D} apply holds v bound (exists body) = (d : D) × truth apply holds v (d ∷ bound) body
