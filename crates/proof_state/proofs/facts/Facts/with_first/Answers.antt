use Rattle.std.proofs.Common.{◌≡◌, ◌∷◌, sym, ◌∙◌, ap}
use Rattle.std.proofs.lemmas.Result.{IfOk-at_ok}
use Rattle.std.specs.List.{list_any}
use Rattle.nj_formula.specs.Meaning.{meaning}
use Rattle.nj_formula.specs.Free.{is_free}
use Rattle.proof_state.specs.Named.{named_facts}
use Rattle.proof_state.proofs.facts.Facts.with_first.Goals as goal

pub invariant_of-result : goal.invariant_of-result
invariant_of-result c =
    let all_is : c.in_ok-all.all ≡ c.args.fact ∷ c.args.self.now =
    IfOk-at_ok _ c.in_ok-all.ensures.first c.with_first.ensures ∙ ap (λ l. c.args.fact ∷ l) c.self.view_is in
    let kept = IfOk-at_ok _ c.in_ok-all.ensures.second c.kept_with-kept.ensures in (
      kept.0 ∙ sym (ap named_facts all_is),
      λ x. kept.1 x ∙ sym (ap (list_any (λ fact. is_free x (meaning fact.formula))) all_is),
    )
