-- FirstNumbers that were counted, of which the first are kept.
use Rattle.std.specs.Prelude.{◌≡◌, ℕ, List, length, take}
use Rattle.byte_message.specs.Limits.{most_chunks}
use Rattle.byte_message.specs.declared.line.FirstNumbers.{FirstNumbers}

-- the first of these numbers are kept, and all are counted
abbrev pub AreCounted : FirstNumbers → List ℕ → Type 0
AreCounted numbers all = (numbers.first ≡ take most_chunks all) × (numbers.count ≡ length all)
