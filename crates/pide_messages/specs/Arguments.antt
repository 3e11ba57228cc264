-- Arguments that name a worker or a protocol.
use Rattle.std.specs.Prelude.{ℕ, List, Option}
use Rattle.message_values.specs.Each.{◌>>=◌}
use Rattle.message_values.specs.Numbers.{number_of}
use Rattle.message_values.specs.declared.protocol.Protocol.{Protocol}
use Rattle.message_values.specs.Protocols.{protocol_of}
use Rattle.message_values.specs.Workers.{worker_of}

-- the worker that an argument names
abbrev pub worker_at : List ℕ → Option ℕ
worker_at text = number_of text >>= worker_of

-- the protocol that it names
abbrev pub protocol_at : List ℕ → Option Protocol
protocol_at text = number_of text >>= protocol_of
