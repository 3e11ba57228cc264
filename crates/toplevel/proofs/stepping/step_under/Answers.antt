-- What is read is what the rules read, and behind `by` nothing more tells.
use Rattle.std.proofs.Common.{◌≡◌, ◌∷◌, [], IfOk, List, sym, subst, ap, ◌∙◌}
use Rattle.std.specs.Option.{option_copied}
use Rattle.outer_syntax.specs.ProperTokens.{proper_from}
use Rattle.outer_syntax.specs.Words.{is_in_force}
use Rattle.outer_syntax.specs.declared.token.Token.{Token}
use Rattle.language.specs.declared.made.Made.{Made}
use Rattle.isar_rules.specs.declared.shape.Shape.TheVariants as shape
use Rattle.isar_rules.specs.declared.state.State.{State}
use Rattle.isar_rules.specs.Steps.{step_on}
use Rattle.toplevel.proofs.StepLemmas.{by-shape, read-all}
use Rattle.toplevel.proofs.stepping.step_under.Goals as goal

pub returns-in_default : goal.returns-in_default
returns-in_default c =
    subst (λ (tokens : List Token). IfOk c.step_on.result (λ made. made
    ≡ step_on c.args.source.now (option_copied c.args.blob) c.args.before.now c.args.aliases.now tokens))
    (sym (read-all c.args.aliases.now c.args.source.now c.names-names.result.now [] c.names-names.ensures c.in_default.ensures))
    c.step_on.ensures

pub returns-then-begins_by : goal.returns-then-begins_by
returns-then-begins_by c =
    let source = c.args.source.now in
    let blob = option_copied c.args.blob in
    let first = c.in-Some.first in
    let rest = proper_from (is_in_force c.names-names.result.now) source first.range.stop in
    subst (λ (wanted : Made State). IfOk c.step_of.result (λ made. made ≡ wanted))
    (by-shape source blob c.args.before.now c.args.aliases.now first rest shape.By (c.begins_by.ensures.alone c.if-begins_by.true rest)
    ∙ ap (step_on source blob c.args.before.now c.args.aliases.now)
    (sym (read-all c.args.aliases.now source c.names-names.result.now (first ∷ rest) c.names-names.ensures c.in-Some.ensures.1)))
    c.step_of.ensures

pub returns : goal.returns
returns c =
    let source = c.args.source.now in
    let rest = proper_from (is_in_force c.names-names.result.now) source c.in-Some.first.range.stop in
    subst (λ (tokens : List Token). IfOk c.step_on-2.result (λ made. made
    ≡ step_on source (option_copied c.args.blob) c.args.before.now c.args.aliases.now tokens))
    (c.deref.ensures.value ∙ c.in_ok-tokens.ensures
    ∙ sym (read-all c.args.aliases.now source c.names-names.result.now (c.in-Some.first ∷ rest) c.names-names.ensures c.in-Some.ensures.1))
    c.step_on-2.ensures
