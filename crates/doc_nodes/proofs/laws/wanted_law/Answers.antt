use Rattle.doc_nodes.proofs.WantedLaws.{reached_sound, reached_complete}
use Rattle.doc_nodes.proofs.laws.wanted_law.Goals as goal

pub returns : goal.returns
returns c = λ nodes p. (reached_sound nodes p, reached_complete nodes p)
