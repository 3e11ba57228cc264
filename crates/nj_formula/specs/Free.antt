-- Free names: identifiers without arguments in the places of atoms and functions (Gentzen's free
-- object variables, 1935).
use Rattle.std.specs.Prelude.{ℕ, Bool, false, ◌||◌, List, map}
use Rattle.std.specs.List.{list_any}
use Rattle.std.specs.Str.{bytes_eq}
use Rattle.nj_formula.specs.declared.argument.Argument.{Argument, fold-Argument}
use Rattle.nj_formula.specs.declared.argument.Argument.TheOpen.{Argument-F}
use Rattle.nj_formula.specs.Statement.{Statement, falsity, atom, neg, conj, disj, implies}
use Rattle.nj_formula.specs.Statement.{every, exists}

-- one layer, with the answer for each argument in its place
abbrev pub free_layer : List ℕ → Argument-F Bool → Bool
free_layer x (Argument-F.Free y) = bytes_eq y x
free_layer x (Argument-F.Bound place) = false
free_layer x (Argument-F.Apply function arguments) = list_any (λ free. free) arguments

-- the name stands in the argument
abbrev pub is_free_in : List ℕ → Argument → Bool
is_free_in x = fold-Argument Bool (free_layer x)

-- the name is free in what a formula says
abbrev pub is_free : List ℕ → Statement → Bool
is_free x falsity = false
is_free x (atom predicate arguments) = list_any (λ free. free) (map (is_free_in x) arguments)
is_free x (neg a) = is_free x a
is_free x (conj a b) = is_free x a || is_free x b
is_free x (disj a b) = is_free x a || is_free x b
is_free x (implies a b) = is_free x a || is_free x b
is_free x (every body) = is_free x body
is_free x (exists body) = is_free x body
