-- A piece that is pulled, after what was taken before.
use Rattle.std.proofs.Common.{◌+◌, ◌<◌, ◌≤◌, ◌++◌, List, ℕ, Option, arith, length, take}
use Rattle.std.proofs.lemmas.List.{length-append, length-take-le}
use Rattle.std.specs.Io.KnownBytes.{Consumes}
use Rattle.std.proofs.KnownBytes.{Consumes-trans}
use Rattle.pide_base.specs.Moves.{PulledSo}
use Rattle.pide_base.specs.declared.source.Pulled.TheVariants as pulled

-- it was taken too, and is no longer than the buffer
pub pulled_more : (first left left' : Option (List ℕ)) (taken buffer : List ℕ) (n : ℕ)
    → Consumes first left taken → PulledSo left left' buffer (pulled.Bytes n)
    → Consumes first left' (taken ++ take n buffer)
    × (length taken < length (taken ++ take n buffer))
    × (length (taken ++ take n buffer) ≤ length taken + length buffer)
pulled_more first left left' taken buffer n took moved =
    let same = length-take-le n buffer moved.1 in
    let both = length-append taken (take n buffer) in
    let within = moved.1 in
    let some = moved.0 in
    (Consumes-trans first left left' taken (take n buffer) took moved.2, omega arith, omega arith)
