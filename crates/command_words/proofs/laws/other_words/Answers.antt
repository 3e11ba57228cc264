use Rattle.command_words.proofs.NotTaken.{are_not_taken}
use Rattle.command_words.proofs.laws.other_words.Goals as goal

pub returns : goal.returns
returns c = are_not_taken
