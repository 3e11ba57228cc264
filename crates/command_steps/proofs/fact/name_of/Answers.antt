use Rattle.std.proofs.Common.{◌≡◌, ℕ, List, IfOk, subst, ◌∙◌}
use Rattle.command_steps.proofs.NameLemmas.{read_name}
use Rattle.command_steps.proofs.fact.name_of.Goals as goal

pub returns : goal.returns
returns c =
    subst (λ (o : List ℕ). IfOk c.new.result (λ n. n ≡ o))
    (c.as_str.ensures.value ∙ read_name _ c.scalars.rest.now _ c.scalars.invariant c.in_default.len_below c.requires)
    c.new.ensures
