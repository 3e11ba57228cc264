-- A statement as a list of numbers, in Polish notation (Łukasiewicz): a number for its form, and
-- then its parts. Different statements have different lists (this project's own).
use Rattle.std.specs.Prelude.{ℕ, List, [], ◌∷◌, ◌++◌, length, map}
use Rattle.nj_formula.specs.declared.argument.Argument.{Argument, fold-Argument}
use Rattle.nj_formula.specs.declared.argument.Argument.TheOpen.{Argument-F}
use Rattle.nj_formula.specs.Statement.{Statement, falsity, atom, neg, conj, disj, implies}
use Rattle.nj_formula.specs.Statement.{every, exists}

-- a name, after its length
abbrev pub counted_name : List ℕ → List ℕ
counted_name x = length x ∷ x

-- the keys one after another
abbrev pub joined_keys : List (List ℕ) → List ℕ
joined_keys [] = []
joined_keys (k ∷ more) = k ++ joined_keys more

-- the keys of arguments, after their number
abbrev pub counted_keys : List (List ℕ) → List ℕ
counted_keys keys = length keys ∷ joined_keys keys

-- one layer of an argument, with the keys of its arguments in their places
abbrev pub key_layer : Argument-F (List ℕ) → List ℕ
key_layer (Argument-F.Free x) = 0 ∷ counted_name x
key_layer (Argument-F.Bound place) = 1 ∷ place ∷ []
key_layer (Argument-F.Apply function keys) = 2 ∷ counted_name function ++ counted_keys keys

-- the key of an argument
abbrev pub argument_key : Argument → List ℕ
argument_key = fold-Argument (List ℕ) key_layer

-- the key of a statement
abbrev pub statement_key : Statement → List ℕ
statement_key falsity = 0 ∷ []
statement_key (atom predicate arguments) =
    1 ∷ counted_name predicate ++ counted_keys (map argument_key arguments)
statement_key (neg a) = 2 ∷ statement_key a
statement_key (conj a b) = 3 ∷ statement_key a ++ statement_key b
statement_key (disj a b) = 4 ∷ statement_key a ++ statement_key b
statement_key (implies a b) = 5 ∷ statement_key a ++ statement_key b
statement_key (every body) = 6 ∷ statement_key body
statement_key (exists body) = 7 ∷ statement_key body
