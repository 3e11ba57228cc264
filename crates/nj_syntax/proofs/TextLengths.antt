-- A name that is shown is no longer than the names that may show it.
use Rattle.std.proofs.Common.{◌≡◌, ◌≤◌, ◌+◌, ℕ, true, List, length, refl, arith, ⊎_elim}
use Rattle.std.specs.Prelude.{sum}
use Rattle.std.proofs.lemmas.Bool.{or_cases}
use Rattle.text_words.proofs.KnownLists.{sum_cons}
use Rattle.nj_formula.specs.Statement.{Statement, falsity, atom, neg, conj, disj, implies, every, exists}
use Rattle.nj_syntax.specs.Primed.{is_shown}
use Rattle.nj_syntax.proofs.KnownLengths.{arguments_fit}
use Rattle.nj_syntax.specs.Printed.{longest_layer, longest}

pub shown_length : (y : List ℕ) (names : List (List ℕ)) (d : ℕ) (s : Statement) → is_shown y names d s ≡ true → length y ≤ longest names s
shown_length y names d falsity shown = cc
shown_length y names d (atom p args) shown = arguments_fit sum sum_cons names (longest_layer names) (λ x. refl) (λ n. refl) (λ f ns. refl) y d args shown
shown_length y names d (neg a) shown = shown_length y names d a shown
shown_length y names d (conj a b) shown =
    ⊎_elim (λ left. omega (arith, shown_length y names d a left)) (λ right. omega (arith, shown_length y names d b right)) (or_cases (is_shown y names d a) (is_shown y names d b) shown)
shown_length y names d (disj a b) shown =
    ⊎_elim (λ left. omega (arith, shown_length y names d a left)) (λ right. omega (arith, shown_length y names d b right)) (or_cases (is_shown y names d a) (is_shown y names d b) shown)
shown_length y names d (implies a b) shown =
    ⊎_elim (λ left. omega (arith, shown_length y names d a left)) (λ right. omega (arith, shown_length y names d b right)) (or_cases (is_shown y names d a) (is_shown y names d b) shown)
shown_length y names d (every a) shown = shown_length y names (d + 1) a shown
shown_length y names d (exists a) shown = shown_length y names (d + 1) a shown
