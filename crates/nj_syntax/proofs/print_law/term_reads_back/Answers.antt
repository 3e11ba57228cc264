use Rattle.nj_syntax.proofs.TermReadLemmas.{term_reads_back}
use Rattle.nj_syntax.proofs.print_law.term_reads_back.Goals as goal

pub returns : goal.returns
returns c = λ t spellable. term_reads_back t spellable
