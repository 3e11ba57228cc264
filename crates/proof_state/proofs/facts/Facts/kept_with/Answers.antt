use Rattle.std.proofs.Common.{◌||◌, ◌∙◌, ap}
use Rattle.std.proofs.lemmas.Result.{IfOk-at_ok}
use Rattle.std.specs.List.{cons_option, list_any}
use Rattle.nj_formula.specs.Meaning.{meaning}
use Rattle.nj_formula.specs.Free.{is_free}
use Rattle.theory_ctx.specs.NameSets.{has_name}
use Rattle.proof_state.specs.Named.{as_local, named_facts}
use Rattle.proof_state.proofs.facts.Facts.kept_with.Goals as goal

pub returns : goal.returns
returns c = (
  IfOk-at_ok _ c.in_ok-cited.ensures.first c.with_named.ensures
      ∙ ap (cons_option (as_local c.args.fact.now))
      (c.self.invariant.0 ∙ ap named_facts c.self.view_is),
  λ x. IfOk-at_ok _ c.in_ok-cited.ensures.second c.with_formula-free.ensures x
      ∙ (ap (λ f. is_free x (meaning f) || has_name c.self.inside.free x) c.get.ensures
      ∙ ap (λ b. is_free x (meaning c.args.fact.now.formula) || b)
      (c.self.invariant.1 x
      ∙ ap (list_any (λ fact. is_free x (meaning fact.formula))) c.self.view_is)),
)
