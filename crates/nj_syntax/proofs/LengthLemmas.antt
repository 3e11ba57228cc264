-- A name that is shown is no longer than all that may show it, so that the search for primes ends.
use Rattle.std.proofs.Common.{◌≡◌, ◌≤◌, ◌+◌, ℕ, true, List, [], ◌∷◌, length, map, refl, arith, ⊎_elim}
use Rattle.std.proofs.lemmas.Bool.{or_cases}
use Rattle.nj_formula.specs.declared.argument.Argument.{Argument, fold-Argument}
use Rattle.nj_formula.specs.declared.argument.Argument.TheOpen.{Argument-F}
use Rattle.nj_formula.specs.Statement.{Statement, falsity, atom, neg, conj, disj, implies, every, exists}
use Rattle.nj_syntax.specs.Primed.{is_shown}
use Rattle.nj_syntax.proofs.KnownLengths.{arguments_fit}

abbrev pub total : List ℕ → ℕ
total [] = 0
total (n ∷ ns) = n + total ns

abbrev pub room_layer : List (List ℕ) → Argument-F ℕ → ℕ
room_layer names (Argument-F.Free x) = length x
room_layer names (Argument-F.Bound place) = total (map length names)
room_layer names (Argument-F.Apply f rooms) = total rooms

abbrev pub argument_room : List (List ℕ) → Argument → ℕ
argument_room names = fold-Argument ℕ (room_layer names)

-- at least the length of each name in what is printed
abbrev pub room : List (List ℕ) → Statement → ℕ
room names falsity = 0
room names (atom p args) = total (map (argument_room names) args)
room names (neg a) = room names a
room names (conj a b) = room names a + room names b
room names (disj a b) = room names a + room names b
room names (implies a b) = room names a + room names b
room names (every a) = room names a
room names (exists a) = room names a

pub length_shown : (y : List ℕ) (names : List (List ℕ)) (d : ℕ) (s : Statement) → is_shown y names d s ≡ true → length y ≤ room names s
length_shown y names d falsity shown = cc
length_shown y names d (atom p args) shown = arguments_fit total (λ n ns. refl) names (room_layer names) (λ x. refl) (λ n. refl) (λ f ns. refl) y d args shown
length_shown y names d (neg a) shown = length_shown y names d a shown
length_shown y names d (conj a b) shown =
    ⊎_elim (λ left. omega (arith, length_shown y names d a left)) (λ right. omega (arith, length_shown y names d b right)) (or_cases (is_shown y names d a) (is_shown y names d b) shown)
length_shown y names d (disj a b) shown =
    ⊎_elim (λ left. omega (arith, length_shown y names d a left)) (λ right. omega (arith, length_shown y names d b right)) (or_cases (is_shown y names d a) (is_shown y names d b) shown)
length_shown y names d (implies a b) shown =
    ⊎_elim (λ left. omega (arith, length_shown y names d a left)) (λ right. omega (arith, length_shown y names d b right)) (or_cases (is_shown y names d a) (is_shown y names d b) shown)
length_shown y names d (every a) shown = length_shown y names (d + 1) a shown
length_shown y names d (exists a) shown = length_shown y names (d + 1) a shown
