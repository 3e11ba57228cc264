use Rattle.nj_syntax.proofs.KnownReadable.{negated_readable, operands_readable, instance_readable}
use Rattle.nj_syntax.proofs.print_law.parts_are_readable.Goals as goal

pub returns : goal.returns
returns c = record { negated = negated_readable; operands = operands_readable; instances = instance_readable }
