use Rattle.std.proofs.Common.{◌∙◌, ap}
use Rattle.std.specs.List.{list_any}
use Rattle.std.specs.Str.{bytes_eq}
use Rattle.proof_state.proofs.variables.Variables.has.Goals as goal

pub returns : goal.returns
returns c =
    c.has.ensures ∙ c.self.invariant c.args.name.now ∙ ap (list_any (λ y. bytes_eq y c.args.name.now)) c.self.view_is
