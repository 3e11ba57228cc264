use Rattle.std.proofs.Common.{◌≡◌, sym, ◌∙◌, ap}
use Rattle.std.proofs.lemmas.Result.{IfOk-weaker}
use Rattle.theory_ctx.specs.Locals.{joined}
use Rattle.proof_state.specs.declared.levels.Levels.TheVariants.{State}
use Rattle.proof_state.specs.Locals.{locals_of}
use Rattle.proof_state.specs.Sights.{AreSights}
use Rattle.proof_state.proofs.LocalLemmas.{sights_joined}
use Rattle.proof_state.proofs.levels.Levels.sights.Goals as goal

pub returns-in-Prove : goal.returns-in-Prove
returns-in-Prove c =
    IfOk-weaker c.sights.result (λ sights. AreSights sights c.in-Prove.around) (λ sights. joined sights ≡ locals_of c.args.self.now)
    (λ sights are. sights_joined sights c.in-Prove.around are ∙ sym (ap locals_of c.in-Prove.is)) c.sights.ensures

pub returns-in-State : goal.returns-in-State
returns-in-State c =
    let around = c.in-State.around in
    IfOk-weaker c.sights_from.result (λ sights. joined sights ≡ locals_of (State c.get.result.now around)) (λ sights. joined sights ≡ locals_of c.args.self.now)
    (λ sights is. is ∙ ap (λ b. locals_of (State b around)) c.get.ensures ∙ sym (ap locals_of c.in-State.is)) c.sights_from.ensures
