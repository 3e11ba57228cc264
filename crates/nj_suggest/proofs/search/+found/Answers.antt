use Rattle.std.proofs.Common.{rules, ◌≡◌, ◌<◌, ◌-◌, Some, None, sym, arith}
use Rattle.nj_formula.specs.declared.formula.Formula.{out-Formula}
use Rattle.nj_formula.specs.declared.formula.Formula.TheVariants.{False}
use Rattle.nj_kernel.specs.declared.rule.Rule.TheVariants as R
use Rattle.proof_terms.specs.declared.term.Term.TheVariants.{ImpI, NotI, DisjE}
use Rattle.suggest_rules.specs.Names.{next_name, assuming}
use Rattle.suggest_rules.specs.Search.{cited, citing, introduced, found_within}
use Rattle.nj_suggest.proofs.SearchLemmas.{found_none, one_none, left_none, found_by_fact, found_by_rule, found_last_ok}
use Rattle.nj_suggest.proofs.search.+found.Goals as goal

pub found-returns-then-deep-eq0 : goal.found-returns-then-deep-eq0
found-returns-then-deep-eq0 t c =
    let is : c.args.deep ≡ 0 = search rules in
    sym (found_none c.args.aliases.now c.args.deep c.args.names.now c.args.goal.now is)

pub found-returns-in-Some : goal.found-returns-in-Some
found-returns-in-Some t c =
    let some : 0 < c.args.deep = omega (arith, c.if-deep-eq0.false) in
    let is : Some c.in-Some.term ≡ cited c.args.names.now c.args.goal.now = search rules in
    found_by_fact c.args.aliases.now c.args.deep c.args.names.now c.args.goal.now some c.in-Some.term is

pub found-returns-in-Some-2 : goal.found-returns-in-Some-2
found-returns-in-Some-2 t c =
    let some : 0 < c.args.deep = omega (arith, c.if-deep-eq0.false) in
    let none : None ≡ cited c.args.names.now c.args.goal.now = search rules in
    let is : Some c.in-Some-2.term ≡ introduced c.args.aliases.now (found_within c.args.aliases.now (c.args.deep - 1)) c.args.names.now (out-Formula c.args.goal.now) = search rules in
    found_by_rule c.args.aliases.now c.args.deep c.args.names.now c.args.goal.now some c.in-Some-2.term none is

pub found-returns : goal.found-returns
found-returns t c =
    let some : 0 < c.args.deep = omega (arith, c.if-deep-eq0.false) in
    let none : None ≡ cited c.args.names.now c.args.goal.now = search rules in
    let no_rule : None ≡ introduced c.args.aliases.now (found_within c.args.aliases.now (c.args.deep - 1)) c.args.names.now (out-Formula c.args.goal.now) = search rules in
    found_last_ok c.args.aliases.now c.args.deep c.args.names.now c.args.goal.now some c.by_facts.result none no_rule c.by_facts.ensures

pub implied-returns-then-deep-eq0 : goal.implied-returns-then-deep-eq0
implied-returns-then-deep-eq0 t c =
    let aliases = c.args.aliases.now in let inside = assuming aliases c.args.names.now c.args.a.now in
    let is : c.args.deep ≡ 0 = search rules in
    one_none aliases R.ImpI (ImpI (next_name aliases c.args.names.now)) (found_within aliases c.args.deep inside c.args.b.now) (found_none aliases c.args.deep inside c.args.b.now is)

pub negated-returns-then-deep-eq0 : goal.negated-returns-then-deep-eq0
negated-returns-then-deep-eq0 t c =
    let aliases = c.args.aliases.now in let inside = assuming aliases c.args.names.now c.args.a.now in
    let is : c.args.deep ≡ 0 = search rules in
    one_none aliases R.NotI (NotI (next_name aliases c.args.names.now)) (found_within aliases c.args.deep inside False) (found_none aliases c.args.deep inside False is)

pub by_cases-returns-then-deep-eq0 : goal.by_cases-returns-then-deep-eq0
by_cases-returns-then-deep-eq0 t c =
    let aliases = c.args.aliases.now in let names = c.args.names.now in let x = next_name aliases names in
    let is : c.args.deep ≡ 0 = search rules in
    left_none aliases R.DisjE (λ u v. DisjE c.args.a.now c.args.b.now (citing c.args.local.now) x u x v)
    (found_within aliases c.args.deep (assuming aliases names c.args.a.now) c.args.goal.now) (found_within aliases c.args.deep (assuming aliases names c.args.b.now) c.args.goal.now)
    (found_none aliases c.args.deep (assuming aliases names c.args.a.now) c.args.goal.now is)
