-- The shape is that of the tokens.
use Rattle.std.proofs.Common.{◌≡◌, IfOk, Option, subst}
use Rattle.std.specs.Option.{option_copied}
use Rattle.isar_rules.specs.declared.shape.Shape.{Shape}
use Rattle.isar_rules.specs.Steps.{made_effect, tried}
use Rattle.toplevel.proofs.stepping.step_on.Goals as goal

pub returns : goal.returns
returns c =
    let before = c.args.before.now in
    subst (λ (shape : Option Shape). IfOk c.step_of.result (λ made. made
    ≡ made_effect c.args.source.now c.args.tokens.now before
    (tried (option_copied c.args.blob) before.place shape)))
    c.in_ok-shape.ensures c.step_of.ensures
