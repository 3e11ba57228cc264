-- The aliases are those in force at the place.
use Rattle.std.proofs.Common.{◌≡◌, IfOk, subst, ◌∙◌, ap}
use Rattle.std.specs.Option.{option_copied}
use Rattle.doc_nodes.specs.Needs.{AliasList, source_tokens}
use Rattle.isar_rules.specs.Steps.{aliases_at, step_on}
use Rattle.toplevel.proofs.stepping.step.Goals as goal

pub returns : goal.returns
returns c =
    let before = c.args.before.now in
    subst (λ (aliases : AliasList). IfOk c.step_under.result (λ made. made
    ≡ step_on c.args.source.now (option_copied c.args.blob) before aliases
    (source_tokens aliases c.args.source.now)))
    (c.aliases_at-aliases.ensures c.new-none.ensures ∙ ap (aliases_at before.place) c.get.ensures)
    c.step_under.ensures
