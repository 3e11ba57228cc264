-- What a run that makes a document writes, by its status (this project's own).
use Rattle.std.specs.Prelude.{ℕ, Option, List}
use Rattle.std.specs.Io.KnownBytes.{Appends}
use Rattle.pide_base.specs.declared.status.Status.{Status}
use Rattle.pide_base.specs.declared.status.Status.TheVariants as status
use Rattle.pide_base.specs.Moves.{AppendsFront}
use Rattle.language.specs.Lang.{Lang}
use Rattle.made_document.specs.Summary.{summary_lines}

-- the lines for a document of so many nodes; a front of them where the sink failed or memory is
-- short; it has no other status
abbrev pub IsGenerated : {S : Type 0} → Lang S → ℕ → Status → Option (List ℕ) → Option (List ℕ)
    → Type 0
IsGenerated l count status.Done old new = Appends old new (summary_lines l count)
IsGenerated l count status.WriteFault old new = AppendsFront old new (summary_lines l count)
IsGenerated l count status.NoMemory old new = AppendsFront old new (summary_lines l count)
IsGenerated l count _ old new = ⊥
