-- What is shown of a version (this project's own).
use Rattle.std.specs.Prelude.{◌≡◌, ℕ, Option, Some, None, Result, Ok, Err, ⊤}
use Rattle.std.specs.Borrow.{Bor}
use Rattle.std.specs.Option.{option_copied}
use Rattle.core_tables.specs.Live.{version_of}
use Rattle.mirror_rules.specs.Images.{Image}
use Rattle.mirror_rules.specs.Moves.{Reflection, Going, Faulted}
use Rattle.mirror_rules.specs.declared.fault.MirrorFault.{MirrorFault}
use Rattle.pide_mirror.specs.Kept.{IsKept}
use Rattle.pide_mirror.specs.declared.known.Known.{Known}

-- what is kept stands for the version, and where there is none nothing is kept
abbrev pub IsKnown : Option Image → Option Known → Type 0
IsKnown (Some image) (Some known) = IsKept known image
IsKnown None None = ⊤
IsKnown image known = ⊥

-- what is known of the version of a number is shown, or else why nothing is known any more
abbrev pub ShowsSo : Reflection → ℕ → Result (Option (Bor Known)) MirrorFault → Type 0
ShowsSo (Going m) id (Ok found) = IsKnown (version_of m.live id) (option_copied found)
ShowsSo (Going m) id (Err fault) = ⊥
ShowsSo (Faulted fault) id result = result ≡ Err fault
