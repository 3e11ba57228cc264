-- How deep the tokens of a formula's print stand (this project's own).
use Rattle.std.specs.Prelude.{ℕ, ◌+◌, nat_le, nat_lt, Bool, ◌&&◌, if◌then◌else◌, List, [], ◌∷◌, map}
use Rattle.std.specs.List.{list_all}
use Rattle.nj_formula.specs.declared.argument.Argument.{Argument, fold-Argument}
use Rattle.nj_formula.specs.declared.argument.Argument.TheOpen.{Argument-F}
use Rattle.nj_formula.specs.Statement.{Statement, falsity, atom, neg, conj, disj, implies, every, exists}

-- one layer, with the answer for each argument in its place, by its depth
abbrev pub within_layer : ℕ → Argument-F (ℕ → Bool) → ℕ → Bool
within_layer most (Argument-F.Free x) d = nat_le d most
within_layer most (Argument-F.Bound place) d = nat_le d most
within_layer most (Argument-F.Apply f arguments) d =
    nat_le d most && list_all (λ within. within (d + 1)) arguments

-- no token of the term is deeper than most, where the term stands at the depth d
abbrev pub is_term_within : ℕ → Argument → ℕ → Bool
is_term_within most = fold-Argument (ℕ → Bool) (within_layer most)

-- the same of each of the terms
abbrev pub are_within : ℕ → List Argument → ℕ → Bool
are_within most arguments d = list_all (λ within. within d) (map (is_term_within most) arguments)

-- how deep the inside stands of what binds with the priority n, in a place for p and higher
-- priorities
abbrev pub inside : ℕ → ℕ → ℕ → ℕ
inside n p d = if nat_lt n p then d + 1 else d

-- no token is deeper than most, where what the formula says is printed at the depth d in a place
-- for the priority p
abbrev pub is_within : ℕ → Statement → ℕ → ℕ → Bool
is_within most falsity p d = nat_le d most
is_within most (atom x []) p d = nat_le d most
is_within most (atom x (t ∷ more)) p d = nat_le d most && are_within most (t ∷ more) (d + 1)
is_within most (neg a) p d = is_within most a 40 (inside 40 p d + 1)
is_within most (conj a b) p d =
    is_within most a 36 (inside 35 p d) && is_within most b 35 (inside 35 p d + 1)
is_within most (disj a b) p d =
    is_within most a 31 (inside 30 p d) && is_within most b 30 (inside 30 p d + 1)
is_within most (implies a b) p d =
    is_within most a 26 (inside 25 p d) && is_within most b 25 (inside 25 p d + 1)
is_within most (every a) p d = is_within most a 10 (inside 10 p d + 1)
is_within most (exists a) p d = is_within most a 10 (inside 10 p d + 1)
