use Rattle.std.proofs.Common.{◌∙◌, ap}
use Rattle.std.specs.List.{list_any}
use Rattle.proof_state.specs.Fresh.{is_in}
use Rattle.proof_state.proofs.facts.Facts.has_free.Goals as goal

pub returns : goal.returns
returns c =
    c.has.ensures ∙ c.self.invariant.1 c.args.name.now ∙ ap (list_any (λ fact. is_in c.args.name.now fact.formula)) c.self.view_is
