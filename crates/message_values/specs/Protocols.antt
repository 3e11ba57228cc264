-- The numbers of protocols.
use Rattle.std.specs.Prelude.{ℕ, ◌==◌, if◌then◌else◌, Option, Some, None}
use Rattle.message_values.specs.declared.protocol.Protocol.{Protocol}
use Rattle.message_values.specs.declared.protocol.Protocol.TheVariants.{Scalars, Symbols}

-- a protocol's number (this project's own)
abbrev pub protocol_number : Protocol → ℕ
protocol_number Scalars = 1
protocol_number Symbols = 2

-- the protocol of a number
abbrev pub protocol_of : ℕ → Option Protocol
protocol_of number = if number == 1 then Some Scalars
    else if number == 2 then Some Symbols else None
