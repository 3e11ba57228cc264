-- The separator is an ASCII character.
use Rattle.std.proofs.Common.{lit<, Some, None}
use Rattle.message_values.proofs.Chunks.{cut_there, first_of_more, only_one}
use Rattle.message_values.proofs.cut.first_chunk.Goals as goal

pub returns-in-Some : goal.returns-in-Some
returns-in-Some c = first_of_more _ _ _ (cut_there 5 c.args.text.now (Some c.in-Some.cut) c.in-Some.ensures.cases (lit< tt))

pub returns-in-None : goal.returns-in-None
returns-in-None c = only_one _ (cut_there 5 c.args.text.now None c.in-None.ensures.cases (lit< tt))
