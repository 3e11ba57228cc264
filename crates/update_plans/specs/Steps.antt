-- What an update makes of a version, by a table of executions (this project's own).
use Rattle.std.specs.Prelude.{ℕ, ◌≤◌, List}
use Rattle.pide_base.specs.Ids.{id_end}
use Rattle.core_tables.specs.Rows.{Row}
use Rattle.doc_nodes.specs.Imports.{NodeList}
use Rattle.exec_rules.specs.declared.version.Version.{Version}
use Rattle.exec_rules.specs.Kept.{BlobList}
use Rattle.exec_rules.specs.Assigning.{Update, assignment}
use Rattle.exec_assign.specs.Telling.{update_version}
use Rattle.update_plans.specs.Cancelled.{cancelled_in}
use Rattle.update_plans.specs.Beside.{HavePlaces, StandOnce, KeepsPlaces}

-- the update of a version to these nodes and blobs, when the table tells what is cancelled
abbrev pub update_by : {R : Type 0} → List (Row R) → Version → NodeList → BlobList → Update
update_by rows before nodes blobs =
    record { tip = before; nodes = nodes; blobs = blobs; cancelled = cancelled_in rows }

-- the version that an update makes, when the next number is this
abbrev pub made_by_update : Update → ℕ → Version
made_by_update u next = update_version u (assignment u next).assigned

-- an execution stands in one row of one node in both versions, and keeps its place
pub record IsSuccessor (before now : Version) : Type 0 where
  pub had_places : HavePlaces before
  pub have_places : HavePlaces now
  pub stood_once : StandOnce before
  pub stand_once : StandOnce now
  pub keeps : KeepsPlaces before now

-- so it is of the version that an update makes, where each new execution has an id
abbrev pub Succeeds : Update → ℕ → Type 0
Succeeds u next =
    (assignment u next).next ≤ id_end → IsSuccessor u.tip (made_by_update u next)
