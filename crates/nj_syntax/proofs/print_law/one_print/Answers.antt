use Rattle.nj_syntax.proofs.HasPrintLemmas.{has_print}
use Rattle.nj_syntax.proofs.OnePrintLemmas.{one_print}
use Rattle.nj_syntax.proofs.print_law.one_print.Goals as goal

pub returns : goal.returns
returns c = record { some = has_print; no_other = λ a text other h k. one_print h other k }
