use Rattle.std.proofs.Common.{◌≡◌, List, ℕ, Option, IfOk, subst, take, ap, ◌∙◌}
use Rattle.text_words.proofs.KnownIdentifiers.{tested-identifier}
use Rattle.isar_rules.specs.BlobLines.{Listed, named_fact}
use Rattle.command_steps.proofs.NameLemmas.{fact_named, fact_unnamed}
use Rattle.command_steps.proofs.fact.fact_in.Goals as goal

pub named_fact-requires : goal.named_fact-requires
named_fact-requires c = tested-identifier (take c.in-Some.n c.args.line.now) c.in-Some.ensures.fits

pub returns-in-Some : goal.returns-in-Some
returns-in-Some c =
    let line = c.args.line.now in
    let n = c.in-Some.n in
    subst (λ (o : Option Listed). IfOk c.named_fact.result (λ fact. fact ≡ o))
    (ap (λ (rest : List ℕ). named_fact (take n line) rest) c.past_gap.ensures ∙ fact_named line n c.in-Some.ensures)
    c.named_fact.ensures

pub returns-in-None : goal.returns-in-None
returns-in-None c = fact_unnamed c.args.line.now c.in-None.ensures
