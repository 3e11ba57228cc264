use Rattle.nj_syntax.proofs.ReadLemmas.{reads_back}
use Rattle.nj_syntax.proofs.ParsedLemmas.{print_parsed}
use Rattle.nj_syntax.proofs.print_law.print_is_parsed.Goals as goal

pub returns : goal.returns
returns c = λ a text answer spellable prints h. print_parsed a text answer (reads_back a text spellable prints) h
