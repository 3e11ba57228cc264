-- What one call moves from a source or into a sink. The bytes left and the contents may be unknown.
use Rattle.std.specs.Prelude.{◌≡◌, ℕ, ◌<◌, ◌≤◌, List, ◌++◌, length, take, Option}
use Rattle.std.specs.Io.KnownBytes.{Appends, Consumes, Keeps, IsAtEnd}
use Rattle.pide_base.specs.declared.source.Pulled.{Pulled}
use Rattle.pide_base.specs.declared.source.Pulled.TheVariants as pulled
use Rattle.pide_base.specs.declared.sink.Pushed.{Pushed}
use Rattle.pide_base.specs.declared.sink.Pushed.TheVariants as pushed

-- a pull moves the first bytes left to the front of the buffer; the end comes only where none is
-- left (this project's own)
abbrev pub PulledSo : Option (List ℕ) → Option (List ℕ) → List ℕ → Pulled → Type 0
PulledSo old new buffer (pulled.Bytes n) =
    (0 < n) × (n ≤ length buffer) × Consumes old new (take n buffer)
PulledSo old new buffer pulled.End = IsAtEnd new × Keeps old new
PulledSo old new buffer pulled.Failed = Keeps old new

-- a push appends the first bytes of the piece, or nothing where it fails (this project's own)
abbrev pub PushedSo : Option (List ℕ) → Option (List ℕ) → List ℕ → Pushed → Type 0
PushedSo old new piece (pushed.Took n) =
    (0 < n) × (n ≤ length piece) × Appends old new (take n piece)
PushedSo old new piece pushed.Failed = Keeps old new

-- the contents grow by a front of these bytes (this project's own)
abbrev pub AppendsFront : Option (List ℕ) → Option (List ℕ) → List ℕ → Type 0
AppendsFront old new bytes = (front : List ℕ) × (rest : List ℕ)
    × (bytes ≡ front ++ rest) × Appends old new front
