use Rattle.command_words.proofs.Forms.{are_taken}
use Rattle.command_words.proofs.laws.every_form_is_taken.Goals as goal

pub returns : goal.returns
returns c = are_taken
