-- What follows the last whole message is read on.
use Rattle.byte_message.proofs.KnownLonger.{every-reading, longer-reading, bad-reading}
use Rattle.byte_message.proofs.laws.longer_streams.Goals as goal

pub returns-clause-every : goal.returns-clause-every
returns-clause-every c = every-reading

pub returns-clause-longer : goal.returns-clause-longer
returns-clause-longer c = longer-reading

pub returns-clause-bad : goal.returns-clause-bad
returns-clause-bad c = bad-reading
