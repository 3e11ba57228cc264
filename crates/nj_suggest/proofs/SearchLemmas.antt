-- The search, level by level.
use Rattle.std.proofs.Common.{◌≡◌, ◌<◌, ◌-◌, ℕ, suc, Bool, true, false, List, Option, Some, None, Result, Ok, Err, option_map, refl, ap, sym, ◌∙◌, arith}
use Rattle.std.specs.Prelude.{IfOk}
use Rattle.std.specs.Option.{option_or}
use Rattle.nj_formula.specs.declared.formula.Formula.{Formula, out-Formula}
use Rattle.nj_kernel.specs.declared.rule.Rule.{Rule}
use Rattle.proof_terms.specs.declared.term.Term.{Term}
use Rattle.suggest_rules.specs.declared.names.Names.{Names}
use Rattle.suggest_rules.specs.Search.{if_so, both, by_rule, cited, introduced, by_facts, found_by, found_within}

if_none : (test : Bool) → if_so test None ≡ None
if_none true = refl
if_none false = refl

module _ (aliases : List (List ℕ)) where
  -- nothing is found at no depth
  pub found_none : (deep : ℕ) (names : Names) (goal : Formula) → deep ≡ 0 → found_within aliases deep names goal ≡ None
  unfolding found_within
  found_none deep names goal is = ap (λ d. found_within aliases d names goal) is

  -- at a depth, in one of three ways
  pub found_more : (deep : ℕ) (names : Names) (goal : Formula) → 0 < deep
      → found_within aliases deep names goal
      ≡ option_or (cited names goal) (option_or (introduced aliases (found_within aliases (deep - 1)) names (out-Formula goal)) (by_facts aliases (found_within aliases (deep - 1)) names goal))
  unfolding found_within found_by
  found_more deep names goal some =
      let is : deep ≡ suc (deep - 1) = omega (arith, some) in
      ap (λ d. found_within aliases d names goal) is

  -- a rule of one part, of which none is found
  pub one_none : (rule : Rule) (make : Term → Term) (found : Option Term) → found ≡ None → None ≡ by_rule aliases rule (option_map make found)
  one_none rule make found is = sym (ap (λ f. by_rule aliases rule (option_map make f)) is ∙ if_none _)

  -- a rule of two parts, of which the first is not found
  pub left_none : (rule : Rule) (make : Term → Term → Term) (one other : Option Term) → one ≡ None → None ≡ by_rule aliases rule (both make one other)
  left_none rule make one other is = sym (ap (λ f. by_rule aliases rule (both make f other)) is ∙ if_none _)

  module _ (deep : ℕ) (names : Names) (goal : Formula) (some : 0 < deep) where
    abbrev fact : Option Term
    fact = cited names goal

    abbrev rule : Option Term
    rule = introduced aliases (found_within aliases (deep - 1)) names (out-Formula goal)

    abbrev facts : Option Term
    facts = by_facts aliases (found_within aliases (deep - 1)) names goal

    pub found_by_fact : (t : Term) → Some t ≡ fact → Some t ≡ found_within aliases deep names goal
    found_by_fact t is = sym (found_more deep names goal some ∙ ap (λ f. option_or f (option_or rule facts)) (sym is))

    pub found_by_rule : (t : Term) → None ≡ fact → Some t ≡ rule → Some t ≡ found_within aliases deep names goal
    found_by_rule t none is =
        sym (found_more deep names goal some ∙ (ap (λ f. option_or f (option_or rule facts)) (sym none) ∙ ap (λ r. option_or r facts) (sym is)))

    pub found_last : (t : Option Term) → None ≡ fact → None ≡ rule → t ≡ facts → t ≡ found_within aliases deep names goal
    found_last t none no_rule is =
        sym (found_more deep names goal some ∙ (ap (λ f. option_or f (option_or rule facts)) (sym none) ∙ (ap (λ r. option_or r facts) (sym no_rule) ∙ sym is)))

    pub found_last_ok : {E : Type 0} (r : Result (Option Term) E) → None ≡ fact → None ≡ rule → IfOk r (λ t. t ≡ facts)
        → IfOk r (λ t. t ≡ found_within aliases deep names goal)
    found_last_ok (Ok t) none no_rule is = found_last t none no_rule is
    found_last_ok (Err e) none no_rule is = tt
