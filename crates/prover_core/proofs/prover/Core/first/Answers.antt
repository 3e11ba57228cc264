use Rattle.std.proofs.Common.{ap, ◌∙◌}
use Rattle.core_rules.specs.Ready.{first_ready}
use Rattle.prover_core.specs.States.{CoreState}
use Rattle.prover_core.proofs.TipLive.{laws_of}
use Rattle.prover_core.proofs.FirstOf.{first_of}
use Rattle.prover_core.proofs.prover.Core.first.Goals as goal

pub returns : goal.returns
returns g c =
    let laws = laws_of _ _ _ c.self.invariant c.tip_law.ensures c.holders_law.ensures.told in
    first_of _ _ _ c.self.invariant laws (c.first_law.ensures.first c.self.inside.past) (c.first_law.ensures.none c.self.inside.past) c.next_part.result
    c.next_part.ensures.some c.next_part.ensures.none
    ∙ ap (λ (s : CoreState). first_ready g.L.Language.lang s.past) c.self.view_is
