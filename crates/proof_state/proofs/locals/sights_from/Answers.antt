use Rattle.std.proofs.Common.{◌≡◌, ◌∷◌, ◌∙◌, ap}
use Rattle.std.proofs.lemmas.Result.{IfOk-at_ok, IfOk-weaker}
use Rattle.theory_ctx.specs.Locals.{joined}
use Rattle.proof_state.specs.declared.levels.Levels.TheVariants.{State}
use Rattle.proof_state.specs.Locals.{locals_of}
use Rattle.proof_state.proofs.LocalLemmas.{sights_within}
use Rattle.proof_state.proofs.locals.sights_from.Goals as goal

pub returns : goal.returns
returns c =
    let inner = c.in_ok-sights.named in
    let sights = c.in_ok-sights.sights in
    let block = c.args.block.now in
    let around = c.args.around.now in
    let within : joined (inner ∷ sights) ≡ locals_of (State block around) =
    sights_within inner sights block around (IfOk-at_ok _ c.in_ok-sights.ensures.second c.copy-named.ensures ∙ c.named.ensures)
    (IfOk-at_ok _ c.in_ok-sights.ensures.first c.sights.ensures) in
    IfOk-weaker c.with_first.result (λ all. all ≡ inner ∷ sights) (λ all. joined all ≡ locals_of (State block around))
    (λ all is. ap joined is ∙ within) c.with_first.ensures
