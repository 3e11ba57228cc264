use Rattle.nj_syntax.proofs.ReadLemmas.{reads_back}
use Rattle.nj_syntax.proofs.print_law.reads_back.Goals as goal

pub returns : goal.returns
returns c = λ a text spellable h. reads_back a text spellable h
