-- What an update that is planned will do (this project's own).
use Rattle.std.specs.Prelude.{◌≡◌, ℕ, suc, ◌<◌, ◌≤◌, Bool, false, not, ◌&&◌, List, [], ◌∷◌, map, length, flat_map, ⊤}
use Rattle.std.specs.List.{AllByRecursion}
use Rattle.text_words.specs.Members.{has}
use Rattle.pide_base.specs.declared.part.PartKind.{PartKind}
use Rattle.pide_base.specs.declared.part.PartKind.TheVariants as kind
use Rattle.core_tables.specs.declared.execution.Execution.{Execution}
use Rattle.core_tables.specs.declared.execution.Progress.TheVariants as progress
use Rattle.core_tables.specs.declared.task.Task.{Task}
use Rattle.core_tables.specs.declared.task.Standing.{Standing}
use Rattle.doc_nodes.specs.Imports.{NodeList}
use Rattle.exec_rules.specs.declared.home.Home.{Home}
use Rattle.exec_rules.specs.declared.home.Input.{Input}
use Rattle.exec_rules.specs.declared.home.Input.TheVariants as input
use Rattle.exec_rules.specs.declared.version.Version.{Version}
use Rattle.exec_rules.specs.Kept.{BlobList}
use Rattle.exec_rules.specs.Assigning.{Assignment}
use Rattle.exec_rules.specs.Listed.{Told, listed}
use Rattle.exec_assign.specs.Fitting.{RowsFit}
use Rattle.language.specs.Lang.{Lang}
use Rattle.core_rules.specs.declared.event.Event.{Event}
use Rattle.core_rules.specs.Numbered.{next_number}
use Rattle.core_rules.specs.Assigned.{assigns, is_visible}
use Rattle.core_rules.specs.Parts.{sources_of, evaluation}
use Rattle.core_rules.specs.Standing.{is_finished}
use Rattle.core_rules.specs.Doc.{doc, assignment_of, assigned_version}
use Rattle.core_rules.specs.Ready.{priority_by}
use Rattle.core_rules.specs.Updates.{FitsUpdate}
use Rattle.update_plans.specs.declared.seeing.Sight.{Sight}
use Rattle.update_plans.specs.Begun.{first_kind}
use Rattle.prover_core.specs.States.{Room}

-- an execution that takes this up, of which nothing is finished
abbrev pub begun_execution : {R : Type 0} → Input → Execution R
begun_execution (input.Print e) = record { cancelled = false; progress = progress.Printing }
begun_execution taken = record { cancelled = false; progress = progress.Evaluating }

-- the same, by the kind of the first part
abbrev pub begun_as : {R : Type 0} → PartKind → Execution R
begun_as kind.Print = record { cancelled = false; progress = progress.Printing }
begun_as k = record { cancelled = false; progress = progress.Evaluating }

-- the kind's priority, where a part of it is an evaluation that is visible or not
abbrev pub ranked_by : PartKind → Bool → Standing → Standing
ranked_by kind.Eval visible s = record s { priority = priority_by kind.Eval visible }
ranked_by k visible s = s

-- the task of an evaluation has its priority by whether its command is visible; others keep theirs
abbrev pub ranked : Bool → Standing → Standing
ranked visible s = ranked_by s.kind visible s

-- what contracts see of a plan: the version that it makes, its nodes and blobs, what it assigns,
-- the tasks of new executions by number, which of the tip's executions it drops, which evaluations
-- may be seen otherwise than before, and which nodes are told with their rows
pub record PlanState : Type 0 where
  pub version : ℕ
  pub nodes : NodeList
  pub blobs : BlobList
  pub assignment : Assignment
  pub tasks : List Task
  pub dropped : List ℕ
  pub sights : List Sight
  pub told : List (List ℕ × List Told)

-- the version that is made
abbrev pub made_version : PlanState → Version
made_version p = assigned_version p.nodes p.blobs p.assignment

-- the task is that of a new execution, which waits for what it takes up and is not finished
pub record IsTaskFor (h : List Event) (e : ℕ) (home : Home) (task : Task) : Type 0 where
  pub exec : task.part.exec ≡ e
  pub same_kind : task.part.kind ≡ first_kind home.input
  pub urgent : task.priority ≡ priority_by (first_kind home.input) false
  pub waits : (f : ℕ) → has task.inputs f
      ≡ (has (sources_of home.input) f && not (is_finished h (evaluation f)))

-- the tasks are those of executions with these homes, which have the next numbers from this on
abbrev pub AreTasksFor : List Event → ℕ → List Home → List Task → Type 0
AreTasksFor h e [] [] = ⊤
AreTasksFor h e (home ∷ homes) (task ∷ tasks) =
    IsTaskFor h e home task × AreTasksFor h (suc e) homes tasks
AreTasksFor h e homes tasks = ⊥

-- the evaluation is seen in the version as it says
abbrev pub IsSeen : Version → Sight → Type 0
IsSeen version sight = is_visible version sight.exec ≡ sight.visible

-- the plan is one of the document: its update fits, it assigns what the update will, and tells the
-- nodes whose rows are others than the tip's
pub record IsPlanOf {S : Type 0} (l : Lang S) (h : List Event) (p : PlanState) : Type 0 where
  pub fits : FitsUpdate (doc l h) p.version p.nodes p.blobs
  pub assigned : p.assignment ≡ assignment_of (doc l h) p.nodes p.blobs
  pub rows_fit : RowsFit (made_version p)
  pub tasks : AreTasksFor h (next_number (doc l h).homes) p.assignment.homes p.tasks
  pub drops : (e : ℕ) → has p.dropped e
      ≡ (assigns (doc l h).tip e && not (assigns (made_version p) e))
  pub sees : AllByRecursion (IsSeen (made_version p)) p.sights
  pub unseen : (e : ℕ) → has (map (λ sight. sight.exec) p.sights) e ≡ false
      → is_visible (made_version p) e ≡ is_visible (doc l h).tip e
  pub unseen_new : (e : ℕ) → length (doc l h).homes < e
      → has (map (λ sight. sight.exec) p.sights) e ≡ false → is_visible (made_version p) e ≡ false
  pub tells : p.told ≡ listed (doc l h).tip (made_version p)

-- the room is enough for the plan
pub record HasRoom (r : Room) (p : PlanState) : Type 0 where
  pub versions : 0 < r.versions
  pub executions : length p.tasks ≤ r.executions
  pub tasks : length p.tasks ≤ r.tasks
  pub links : length (flat_map (λ task. task.inputs) p.tasks) ≤ r.links
