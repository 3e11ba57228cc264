use Rattle.std.proofs.Common.{ℕ, List, [], sym, subst, ◌∙◌}
use Rattle.nj_syntax.specs.Prints.{Prints}
use Rattle.nj_syntax.proofs.KnownPrints.{some_print}
use Rattle.nj_syntax.proofs.KnownTexts.{text_is}
use Rattle.nj_syntax.proofs.text_law.one_formula_text.Goals as goal

pub returns-clause-print : goal.returns-clause-print
returns-clause-print c f text =
    let some = some_print [] f in
    (text_is, λ is. subst (λ (t : List ℕ). Prints 10 [] f t) (text_is some.1 ∙ sym is) some.1)

pub returns-clause-placed : goal.returns-clause-placed
returns-clause-placed c place names f text = text_is
