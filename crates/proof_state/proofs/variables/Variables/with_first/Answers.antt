use Rattle.std.proofs.Common.{◌||◌, sym, ◌∙◌, ap}
use Rattle.std.proofs.lemmas.Result.{IfOk-at_ok}
use Rattle.std.specs.List.{list_any}
use Rattle.std.specs.Str.{bytes_eq}
use Rattle.proof_state.proofs.variables.Variables.with_first.Goals as goal

pub invariant_of-result : goal.invariant_of-result
invariant_of-result c x =
    let names = IfOk-at_ok _ c.in_ok-all.ensures.second c.with-names.ensures in
    let all = IfOk-at_ok _ c.in_ok-all.ensures.first c.with_first.ensures in
    names x ∙ ap (λ b. bytes_eq c.args.name x || b) (c.self.invariant x) ∙ sym (ap (list_any (λ y. bytes_eq y x)) all)
