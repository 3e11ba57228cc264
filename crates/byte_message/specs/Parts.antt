-- What a message in progress stands for.
use Rattle.std.specs.Prelude.{ℕ, List, [], ◌++◌, Option, Some, None}
use Rattle.byte_message.specs.declared.frame_fault.FrameFault.{FrameFault}
use Rattle.byte_message.specs.declared.part.Part.{Part}
use Rattle.byte_message.specs.declared.part.Part.TheVariants.{Line, Chunks, Bad}

-- the bytes of the message in progress
abbrev pub rest_of : Part → List ℕ
rest_of (Line line) = line.bytes.items
rest_of (Chunks chunks) = chunks.line.items ++ chunks.bytes.items
rest_of (Bad fault) = []

-- the judged fault
abbrev pub fault_of : Part → Option FrameFault
fault_of (Line line) = None
fault_of (Chunks chunks) = None
fault_of (Bad fault) = Some fault
