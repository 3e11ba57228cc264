-- What came of the first message of some bytes: those kept of its line, and a piece after them.
use Rattle.std.specs.Prelude.{◌≡◌, ℕ, ◌≤◌, ◌<◌, List, ◌++◌, length, take}
use Rattle.byte_message.specs.Heading.{heading}
use Rattle.byte_message.specs.Heading.Heading.{Faulty, Unended}
use Rattle.byte_message.specs.Stream.{IsSpelling}
use Rattle.byte_message.specs.declared.begin.Begun.{Begun}
use Rattle.byte_message.specs.declared.begin.Begun.TheVariants.{Whole, Within, Line, Bad}

-- by what came of it: how many bytes of the piece it takes, what is kept, or what is wrong
abbrev pub BeginsAs : List ℕ → List ℕ → Begun → Type 0
BeginsAs head piece (Whole message used) =
    (used ≤ length piece) × (0 < used) × IsSpelling (head ++ take used piece) message
BeginsAs head piece (Within chunks) = head ++ piece ≡ chunks.line.items ++ chunks.bytes.items
BeginsAs head piece Line = heading (head ++ piece) ≡ Unended
BeginsAs head piece (Bad wrong) = heading (head ++ piece) ≡ Faulty wrong
