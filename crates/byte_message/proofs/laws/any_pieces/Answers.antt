-- Both have read one stream, which has one reading.
use Rattle.byte_message.proofs.KnownEndings.{same-read}
use Rattle.byte_message.proofs.laws.any_pieces.Goals as goal

pub returns : goal.returns
returns c = same-read
