use Rattle.nj_syntax.proofs.KnownReadable.{parsed_readable, print_read_again}
use Rattle.nj_syntax.proofs.print_law.prints_are_read.Goals as goal

pub returns : goal.returns
returns c = record { parsed = parsed_readable; printed = print_read_again }
