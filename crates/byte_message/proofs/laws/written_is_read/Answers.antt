-- A plain spelling is a spelling, and a stream that begins with one has its message first.
use Rattle.byte_message.specs.Stream.{plain_spelling}
use Rattle.byte_message.proofs.KnownEndings.{first-read}
use Rattle.byte_message.proofs.Written.{written}
use Rattle.byte_message.proofs.laws.written_is_read.Goals as goal

pub returns-clause-spelled : goal.returns-clause-spelled
returns-clause-spelled c = written

pub returns-clause-first : goal.returns-clause-first
returns-clause-first c = λ message after read ending fit is_read. first-read (plain_spelling message) after message read ending (written message fit) is_read
