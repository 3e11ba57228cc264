use Rattle.nj_syntax.proofs.ReadLemmas.{fewest_parentheses}
use Rattle.nj_syntax.proofs.print_law.fewest_parentheses.Goals as goal

pub returns : goal.returns
returns c = λ a b text tokens stop whole deep spellable h cut k same. fewest_parentheses a b text tokens stop whole deep spellable h cut k same
