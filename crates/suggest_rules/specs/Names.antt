-- The names that a suggested proof may cite, and those of its own assumptions (this project's own).
use Rattle.std.specs.Prelude.{ℕ, ◌+◌, Bool, not, ◌||◌, List, [], ◌∷◌, length, map, sum, take, filter, codes, ◌++◌}
use Rattle.std.specs.Fmt.{decimal}
use Rattle.std.specs.List.{list_any}
use Rattle.std.specs.Str.{bytes_eq}
use Rattle.nj_formula.specs.declared.formula.Formula.{Formula}
use Rattle.nj_syntax.specs.Primed.{with_primes}
use Rattle.outer_syntax.specs.Words.{same}
use Rattle.theory_ctx.specs.declared.local.Local.{Local}
use Rattle.nj_syntax.specs.Printed.{least_failing}
use Rattle.suggest_rules.specs.declared.names.Names.{Names}

-- the facts but for those of this name
abbrev pub others : List ℕ → List Local → List Local
others name locals = filter (λ local. not (bytes_eq local.name name)) locals

-- the facts that are hidden by none further in
abbrev pub unhidden : List Local → List Local
unhidden [] = []
unhidden (local ∷ outer) = local ∷ others local.name (unhidden outer)

-- how many facts of the blocks may be cited
abbrev pub most_cited : ℕ
most_cited = 16

-- what may be cited at a goal, by the facts of the blocks around it, the innermost first
abbrev pub citable : List Local → Names
citable locals = record { own = 0; facts = take most_cited (unhidden locals) }

-- the name is an alias of a command
abbrev pub is_alias : List (List ℕ) → List ℕ → Bool
is_alias aliases name = list_any (same name) aliases

-- one of the facts has the name
abbrev pub is_name_of : List Local → List ℕ → Bool
is_name_of facts name = list_any (λ local. bytes_eq local.name name) facts

-- `h` with the number of the term's next assumption
abbrev pub numbered : Names → List ℕ
numbered names = codes "h" ++ decimal (names.own + 1)

module _ (aliases : List (List ℕ)) (names : Names) where
  -- the name is that of a fact, or an alias
  abbrev pub is_taken : List ℕ → Bool
  is_taken name = is_name_of names.facts name || is_alias aliases name

  -- no name that is taken is longer
  abbrev pub longest_taken : ℕ
  longest_taken = sum (map (λ local. length local.name) names.facts) + sum (map length aliases)

  -- the name of the term's next assumption: with the least number of `'` with which it isn't taken
  abbrev pub next_name : List ℕ
  next_name = with_primes (numbered names)
      (least_failing (λ k. is_taken (with_primes (numbered names) k)) 0 (longest_taken + 1))

  -- the names with that of one more assumption, which is this formula
  abbrev pub assuming : Formula → Names
  assuming a = record {
    own = names.own + 1;
    facts = record { name = next_name; formula = a } ∷ names.facts;
  }
