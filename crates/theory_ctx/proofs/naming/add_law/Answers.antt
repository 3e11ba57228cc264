use Rattle.std.proofs.Common.{[], sym, ◌∙◌, ap}
use Rattle.theory_ctx.specs.Facts.{fact_of, facts_elsewhere}
use Rattle.theory_ctx.specs.Looked.{first_of, looked_by}
use Rattle.theory_ctx.specs.Merged.{extended_facts}
use Rattle.theory_ctx.proofs.NamedSo.{called_elsewhere, import_elsewhere}
use Rattle.theory_ctx.proofs.Adding.{fact_of-own, fact_of-other, imported-added, looked_by-kept}
use Rattle.theory_ctx.proofs.naming.add_law.Goals as goal

pub returns-clause-own : goal.returns-clause-own
returns-clause-own c facts x name plain =
    ap (looked_by (extended_facts x facts) x.0.theory) plain
    ∙ ap (λ o. first_of o (facts_elsewhere x.0.theory x.0.name (extended_facts x facts)))
    (fact_of-own x facts)

pub returns-clause-long : goal.returns-clause-long
returns-clause-long c facts x own name long =
    ap (looked_by (extended_facts x facts) own) long ∙ ap (λ o. first_of o [])
    (fact_of-own x facts)

pub returns-clause-elsewhere : goal.returns-clause-elsewhere
returns-clause-elsewhere c facts x own name plain other =
    ap (looked_by (extended_facts x facts) own) plain
    ∙ ap (λ o. first_of o (facts_elsewhere own x.0.name (extended_facts x facts)))
    (fact_of-other own x.0.name x facts (called_elsewhere x own x.0.name (λ same. other (sym same))))
    ∙ ap (first_of (fact_of own x.0.name facts))
    (imported-added own x.0.name x facts (import_elsewhere x own (λ same. other (sym same))))

pub returns-clause-others : goal.returns-clause-others
returns-clause-others c facts x own name sorted none plain long = looked_by-kept x facts own _ sorted none plain long
