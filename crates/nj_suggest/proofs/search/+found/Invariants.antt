use Rattle.std.proofs.Common.{◌≡◌, ◌+◌, ◌*◌}
use Rattle.nj_formula.specs.declared.formula.Formula.{out-Formula}
use Rattle.suggest_rules.specs.Search.{first_of, citing, eliminated, found_within}
use Rattle.nj_suggest.proofs.search.+found.Given as goal

abbrev pub invariant-by_facts-facts : goal.invariant-by_facts-facts
invariant-by_facts-facts l =
    (goal.iterator-by_facts-facts).can_next l.local-iterator × (goal.iterator-by_facts-facts).is_finite l.local-iterator
    × (first_of (λ local. eliminated l.aliases (found_within l.aliases l.deep) l.names l.goal (citing local) (out-Formula local.formula)) l.local-iterator
    ≡ first_of (λ local. eliminated l.aliases (found_within l.aliases l.deep) l.names l.goal (citing local) (out-Formula local.formula)) l.names.facts)

abbrev pub decreases-found : goal.decreases-found
decreases-found l = 5 * l.deep

abbrev pub decreases-introduced : goal.decreases-introduced
decreases-introduced l = 5 * l.deep + 4

abbrev pub decreases-implied : goal.decreases-implied
decreases-implied l = 5 * l.deep + 2

abbrev pub decreases-negated : goal.decreases-negated
decreases-negated l = 5 * l.deep + 2

abbrev pub decreases-conjoined : goal.decreases-conjoined
decreases-conjoined l = 5 * l.deep + 2

abbrev pub decreases-beside : goal.decreases-beside
decreases-beside l = 5 * l.deep + 1

abbrev pub decreases-disjoined : goal.decreases-disjoined
decreases-disjoined l = 5 * l.deep + 2

abbrev pub decreases-by_facts : goal.decreases-by_facts
decreases-by_facts l = 5 * l.deep + 4

abbrev pub decreases-eliminated : goal.decreases-eliminated
decreases-eliminated l = 5 * l.deep + 3

abbrev pub decreases-followed : goal.decreases-followed
decreases-followed l = 5 * l.deep + 2

abbrev pub decreases-contradicted : goal.decreases-contradicted
decreases-contradicted l = 5 * l.deep + 2

abbrev pub decreases-by_cases : goal.decreases-by_cases
decreases-by_cases l = 5 * l.deep + 2

abbrev pub decreases-under : goal.decreases-under
decreases-under l = 5 * l.deep + 1
