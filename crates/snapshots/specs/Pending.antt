-- The executions of a node that are still to be worked on.
use Rattle.std.specs.Prelude.{ℕ, ◌↔◌, ◌∷◌, [], List, Option, Some, None}
use Rattle.std.specs.List.{flat_map, Contains}
use Rattle.std.specs.List.Sorted.{IsStrictlyIncreasing}
use Rattle.std.specs.Borrow.{Bor}
use Rattle.report_markup.specs.declared.report.Report.{Report}
use Rattle.snapshots.specs.declared.part.AssignedPart.{AssignedPart}

-- the execution, unless it has reported
abbrev pub unless_reported : ℕ → Option (Bor (List Report)) → List ℕ
unless_reported exec (Some reports) = []
unless_reported exec None = exec ∷ []

-- the execution of each part that isn't finished
abbrev pub unfinished : List AssignedPart → List ℕ
unfinished parts = flat_map (λ p. unless_reported p.exec p.reports) parts

-- these are the executions with an unfinished part, rising, each once (this project's own)
pub record IsPending (parts : List AssignedPart) (execs : List ℕ) : Type 0 where
  pub rising : IsStrictlyIncreasing execs
  pub exact : (exec : ℕ) → Contains execs exec ↔ Contains (unfinished parts) exec
