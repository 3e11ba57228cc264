-- Sets of names, and the names that are free in formulas (this project's own).
use Rattle.std.specs.Prelude.{◌≡◌, ℕ, Bool, true, List, [], ◌∷◌, map, if◌then◌else◌}
use Rattle.std.specs.Option.{is_some}
use Rattle.nj_formula.specs.declared.argument.Argument.{Argument, fold-Argument}
use Rattle.nj_formula.specs.declared.argument.Argument.TheOpen.{Argument-F}
use Rattle.nj_formula.specs.Statement.{Statement, falsity, atom, neg, conj, disj, implies}
use Rattle.nj_formula.specs.Statement.{every, exists}
use Rattle.nj_formula.specs.declared.formula.Formula.{Formula}
use Rattle.nj_formula.specs.Meaning.{meaning}
use Rattle.nj_formula.specs.Free.{is_free}
use Rattle.shared_map.specs.Pairs.{Each, found}
use Rattle.shared_map.specs.Changes.{put}
use Rattle.theory_ctx.specs.Facts.{Fact}
use Rattle.theory_ctx.specs.Order.{by_bytes}

-- a set of names: the pairs of a map whose values say nothing
abbrev pub Names : Type 0
Names = List (List ℕ × Unit {0})

-- the name is in the set
abbrev pub has_name : Names → List ℕ → Bool
has_name names x = is_some (found by_bytes x names)

-- the set with this name too
abbrev pub with_name : List ℕ → Names → Names
with_name x names = if has_name names x then names else put by_bytes (x, tt) names

-- the set after all of these steps
abbrev pub with_all : List (Names → Names) → Names → Names
with_all [] names = names
with_all (step ∷ steps) names = with_all steps (step names)

-- one layer, with the step for each argument in its place
abbrev pub names_layer : Argument-F (Names → Names) → Names → Names
names_layer (Argument-F.Free x) names = with_name x names
names_layer (Argument-F.Bound place) names = names
names_layer (Argument-F.Apply function steps) names = with_all steps names

-- the set with the names too that stand in the argument
abbrev pub with_argument : Argument → Names → Names
with_argument = fold-Argument (Names → Names) names_layer

-- the set with the names too that are free in what a formula says
abbrev pub with_free : Statement → Names → Names
with_free falsity names = names
with_free (atom predicate arguments) names = with_all (map with_argument arguments) names
with_free (neg a) names = with_free a names
with_free (conj a b) names = with_free b (with_free a names)
with_free (disj a b) names = with_free b (with_free a names)
with_free (implies a b) names = with_free b (with_free a names)
with_free (every body) names = with_free body names
with_free (exists body) names = with_free body names

-- the set has all names that are free in the formula
abbrev pub Covers : Names → Formula → Type 0
Covers names f = (x : List ℕ) → is_free x (meaning f) ≡ true → has_name names x ≡ true

-- the set has all names that are free in the facts
abbrev pub CoversAll : Names → List Fact → Type 0
CoversAll names = Each (λ fact. Covers names fact.1)
