-- What was tried is what was told, so what is made of it is what is made of what was told.
use Rattle.std.proofs.Common.{◌≡◌, Err, IfOk, sym, subst, string_bytes}
use Rattle.command_steps.specs.Tries.{Tries}
use Rattle.command_steps.specs.declared.halt.Halt.{Halt}
use Rattle.isar_rules.specs.Steps.{made_effect}
use Rattle.toplevel.proofs.made.made_by.Goals as goal

pub returns-in-Ok : goal.returns-in-Ok
returns-in-Ok c = λ told tries.
    subst (λ t. IfOk c.accepted.result (λ made. made
    ≡ made_effect c.args.source.now c.args.tokens.now c.args.before.now t))
    (sym (subst (Tries told) c.in-Ok.is tries)) c.accepted.ensures

pub returns-in-Err-Refused : goal.returns-in-Err-Refused
returns-in-Err-Refused c = λ told tries.
    let same : told ≡ Err (string_bytes c.in-Err-Refused.text) =
    subst (λ (halt : Halt). Tries told (Err halt)) c.in-Err-Refused.field-0-is
    (subst (Tries told) c.in-Err-Refused.is tries)
    in
    subst (λ t. IfOk c.refused.result (λ made. made
    ≡ made_effect c.args.source.now c.args.tokens.now c.args.before.now t))
    (sym same) c.refused.ensures
