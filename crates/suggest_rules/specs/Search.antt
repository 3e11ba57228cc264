-- The proof that is suggested for a goal: the first that is found in a fixed order (rules of
-- natural deduction are Gentzen's, 1935; the order of the search is this project's own).
use Rattle.std.specs.Prelude.{ℕ, zero, suc, Bool, false, true, not, if◌then◌else◌, List, [], ◌∷◌, find, option_map, Option, Some, None}
use Rattle.std.specs.Option.{option_or, option_and_then}
use Rattle.nj_formula.specs.declared.formula.Formula.{Formula, out-Formula}
use Rattle.nj_formula.specs.declared.formula.Formula.TheOpen.{Formula-F}
use Rattle.nj_formula.specs.declared.formula.Formula.TheVariants as F
use Rattle.nj_formula.specs.Meaning.{meaning}
use Rattle.nj_kernel.specs.declared.rule.Rule.{Rule}
use Rattle.nj_kernel.specs.declared.rule.Rule.TheVariants as R
use Rattle.nj_kernel.specs.RuleNames.{rule_name}
use Rattle.theory_ctx.specs.declared.local.Local.{Local}
use Rattle.proof_terms.specs.declared.term.Term.{Term}
use Rattle.proof_terms.specs.declared.term.Term.TheVariants.{Fact, ConjI, ConjE1, ConjE2, DisjI1, DisjI2, DisjE}
use Rattle.proof_terms.specs.declared.term.Term.TheVariants.{ImpI, ImpE, NotI, NotE, FalseE}
use Rattle.proof_checks.specs.Statements.{is_same}
use Rattle.suggest_rules.specs.declared.names.Names.{Names}
use Rattle.suggest_rules.specs.Names.{citable, is_alias, next_name, assuming}

-- what is found, where the test holds
abbrev pub if_so : Bool → Option Term → Option Term
if_so test found = if test then found else None

-- a term of two parts, where both are found
abbrev pub both : (Term → Term → Term) → Option Term → Option Term → Option Term
both make t u = option_and_then (λ first. option_map (make first) u) t

-- equal up to bound names
abbrev pub says_same : Formula → Formula → Bool
says_same a b = is_same (meaning a) (meaning b)

-- the formula is `False`
abbrev pub is_false : Formula-F Formula → Bool
is_false Formula-F.False = true
is_false _ = false

-- a fact that is cited by its name, which stands nowhere yet
abbrev pub citing : Local → Term
citing local = Fact (record { name = local.name; range = record { start = 0; stop = 0 } })

-- the first fact that says the goal, cited
abbrev pub cited : Names → Formula → Option Term
cited names goal = option_map citing (find (λ local. says_same local.formula goal) names.facts)

-- the first that is found of each of these facts
abbrev pub first_of : (Local → Option Term) → List Local → Option Term
first_of try [] = None
first_of try (local ∷ more) = option_or (try local) (first_of try more)

module _ (aliases : List (List ℕ)) where
  -- what is found by a rule, unless the rule's name is an alias of a command
  abbrev pub by_rule : Rule → Option Term → Option Term
  by_rule rule found = if_so (not (is_alias aliases (rule_name rule))) found

  -- where `sub` finds the parts of a rule, by what they may cite
  module _ (sub : Names → Formula → Option Term) (names : Names) where
    -- by a rule that introduces, by the goal's outermost layer; a quantifier is as an atom
    abbrev pub introduced : Formula-F Formula → Option Term
    introduced (Formula-F.Implies a b) =
        by_rule R.ImpI
        (option_map (ImpI (next_name aliases names)) (sub (assuming aliases names a) b))
    introduced (Formula-F.Not a) = by_rule R.NotI
        (option_map (NotI (next_name aliases names)) (sub (assuming aliases names a) F.False))
    introduced (Formula-F.And a b) = by_rule R.ConjI (both ConjI (sub names a) (sub names b))
    introduced (Formula-F.Or a b) = option_or
        (by_rule R.DisjI1 (option_map DisjI1 (sub names a)))
        (by_rule R.DisjI2 (option_map DisjI2 (sub names b)))
    introduced _ = None

    -- a case for each side of `A | B`, both under the same name
    abbrev pub by_cases : Formula → Term → Formula → Formula → Option Term
    by_cases goal fact a b = let x = next_name aliases names in
        both (λ u v. DisjE a b fact x u x v)
        (sub (assuming aliases names a) goal) (sub (assuming aliases names b) goal)

    -- by a rule that eliminates a fact, by the outermost layer of what the fact says
    abbrev pub eliminated : Formula → Term → Formula-F Formula → Option Term
    eliminated goal fact (Formula-F.And a b) = option_or
        (by_rule R.ConjE1 (if_so (says_same a goal) (Some (ConjE1 b fact))))
        (by_rule R.ConjE2 (if_so (says_same b goal) (Some (ConjE2 a fact))))
    eliminated goal fact (Formula-F.Implies a b) =
        by_rule R.ImpE (if_so (says_same b goal) (option_map (ImpE a fact) (sub names a)))
    eliminated goal fact (Formula-F.Not a) = by_rule R.NotE
        (if_so (is_false (out-Formula goal)) (option_map (NotE a fact) (sub names a)))
    eliminated goal fact (Formula-F.Or a b) = by_rule R.DisjE (by_cases goal fact a b)
    eliminated goal fact Formula-F.False = by_rule R.FalseE (Some (FalseE fact))
    eliminated goal fact _ = None

    -- the first elimination of a fact
    abbrev pub by_facts : Formula → Option Term
    by_facts goal = first_of
        (λ local. eliminated goal (citing local) (out-Formula local.formula)) names.facts

    -- a fact that says the goal, else an introduction, else an elimination
    unfoldable pub found_by : Formula → Option Term
    found_by goal =
        option_or (cited names goal) (option_or (introduced (out-Formula goal)) (by_facts goal))

  -- the first proof of a goal that is at most so deep, where a fact alone is one deep
  unfoldable pub found_within : ℕ → Names → Formula → Option Term
  found_within zero names goal = None
  found_within (suc d) names goal = found_by (found_within d) names goal

-- how deep a suggested proof is at most
abbrev pub deepest : ℕ
deepest = 4

-- the proof that is suggested for a goal, by the facts of the blocks around it, the innermost
-- first, and the names that are aliases of commands
abbrev pub suggested : Formula → List Local → List (List ℕ) → Option Term
suggested goal locals aliases = found_within aliases deepest (citable locals) goal
