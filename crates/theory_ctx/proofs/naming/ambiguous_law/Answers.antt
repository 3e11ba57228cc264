use Rattle.theory_ctx.specs.Looked.{name_parts}
use Rattle.theory_ctx.proofs.Ambiguous.{told_of, ambiguous_of, theories_rise}
use Rattle.theory_ctx.proofs.naming.ambiguous_law.Goals as goal

pub returns-clause-exactly : goal.returns-clause-exactly
returns-clause-exactly c facts own name one other = (
  told_of facts own one other (name_parts name),
  ambiguous_of facts own one other
      (name_parts name),
)

pub returns-clause-order : goal.returns-clause-order
returns-clause-order c = theories_rise
