-- Both readings begin with the same messages, and end at the same rest.
use Rattle.byte_message.proofs.KnownEndings.{one-reading}
use Rattle.byte_message.proofs.laws.one_reading.Goals as goal

pub returns : goal.returns
returns c = one-reading
