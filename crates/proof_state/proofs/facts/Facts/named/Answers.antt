use Rattle.std.proofs.Common.{◌∙◌, ap}
use Rattle.proof_state.specs.Named.{named_facts}
use Rattle.proof_state.proofs.facts.Facts.named.Goals as goal

pub returns : goal.returns
returns c = c.self.invariant.0 ∙ ap named_facts c.self.view_is
