use Rattle.std.proofs.Common.{OnOk, string_bytes, sym, subst}
use Rattle.proof_state.specs.Describes.{Adds, SaysFormula, SaysSubgoal}
use Rattle.proof_state.proofs.describe.write_subgoal.Goals as goal

pub returns-in-Show : goal.returns-in-Show
returns-in-Show c =
    let old = string_bytes c.args.text.now in
    let new = string_bytes c.write_formula.new.text in
    subst (λ s. OnOk c.write_formula.result (Adds old new (SaysSubgoal s))) (sym c.in-Show.is)
    (subst (λ f. OnOk c.write_formula.result (Adds old new (SaysFormula f)))
    c.get.ensures c.write_formula.ensures)
