-- What came of the commands of a node, by a table of executions (this project's own).
use Rattle.std.specs.Prelude.{ℕ, Bool, false, not, List, [], ◌∷◌, ◌++◌, flat_map, slice_get, Option, Some}
use Rattle.std.specs.Option.{option_map_or}
use Rattle.pide_base.specs.declared.range.Range.{Range}
use Rattle.core_tables.specs.declared.execution.Execution.{Execution}
use Rattle.core_tables.specs.declared.execution.Progress.{Progress}
use Rattle.core_tables.specs.declared.execution.Progress.TheVariants as progress
use Rattle.core_tables.specs.Progress.{is_done}
use Rattle.doc_nodes.specs.declared.node.Entry.{Entry}
use Rattle.core_rules.specs.exec_rules_below.declared.row.Row.{Row}
use Rattle.core_rules.specs.exec_rules_below.declared.version.Version.{Version}
use Rattle.core_rules.specs.exec_rules_below.Listed.{executions}
use Rattle.core_rules.specs.Shown.{PartShown}
use Rattle.core_jobs.specs.declared.done.Done.{Done}
use Rattle.core_jobs.specs.declared.results.PartResult.{PartResult}

-- a part that is told, as one that is shown
abbrev pub told_part : PartResult → PartShown
told_part part = record { exec = part.exec; span = part.span; reports = Some part.reports.now }

-- a part of an execution that came to this, at the place of its command
abbrev pub part_of : {S : Type 0} → Range → ℕ → Done S → PartShown
part_of span e done = record { exec = e; span = span; reports = Some done.reports }

-- the finished parts of an execution that is so far
abbrev pub parts_by : {S : Type 0} → Range → ℕ → Progress (Done S) → List PartShown
parts_by span e progress.Evaluating = []
parts_by span e (progress.Forking eval) = part_of span e eval ∷ []
parts_by span e (progress.Evaluated eval) = part_of span e eval ∷ []
parts_by span e (progress.Forked eval fork) = part_of span e eval ∷ part_of span e fork ∷ []
parts_by span e progress.Printing = []
parts_by span e (progress.Printed print) = part_of span e print ∷ []

-- the finished parts of an execution, by what a table has of it
abbrev pub parts_known : {S : Type 0} → Range → ℕ → Option (Execution (Done S)) → List PartShown
parts_known span e execution = option_map_or (λ x. parts_by span e x.progress) execution []

-- the finished parts of a node's first commands, which have these rows
abbrev pub rows_known : {S : Type 0} → (ℕ → Option (Execution (Done S))) → List Entry → List Row
    → List PartShown
rows_known table (e ∷ es) (row ∷ rows) =
    flat_map (λ exec. parts_known e.range exec (table exec)) (executions row)
    ++ rows_known table es rows
rows_known table es rows = []

-- the rows of the node at a place of a version
abbrev pub rows_at : Version → ℕ → List Row
rows_at version place = option_map_or (λ node. node.rows) (slice_get version.assigned place) []

-- a table has an execution with an unfinished part
abbrev pub is_unfinished : {R : Type 0} → Option (Execution R) → Bool
is_unfinished execution = option_map_or (λ x. not (is_done x.progress)) execution false
