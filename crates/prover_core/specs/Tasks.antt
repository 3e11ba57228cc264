-- The tasks of the tip (this project's own).
use Rattle.std.specs.Prelude.{◌≡◌, ℕ, Bool, true, false, not, ◌&&◌, if◌then◌else◌, List, [], Option, Some, None, ⊤}
use Rattle.text_words.specs.Members.{has}
use Rattle.pide_base.specs.declared.part.Part.{Part}
use Rattle.pide_base.specs.declared.part.PartKind.{PartKind}
use Rattle.pide_base.specs.declared.part.PartKind.TheVariants as kind
use Rattle.core_tables.specs.declared.priority.Priority.TheVariants as priority
use Rattle.core_tables.specs.declared.task.Standing.{Standing as Task}
use Rattle.exec_rules.specs.declared.home.Home.{Home}
use Rattle.exec_rules.specs.declared.version.Version.{Version}
use Rattle.language.specs.Lang.{Lang}
use Rattle.core_rules.specs.declared.event.Event.{Event}
use Rattle.core_rules.specs.Assigned.{assigns}
use Rattle.core_rules.specs.Parts.{waits_for, evaluation}
use Rattle.core_rules.specs.Standing.{Standing, Held, standing, is_done}
use Rattle.core_rules.specs.Doc.{Doc}
use Rattle.core_rules.specs.Ready.{priority_of}
use Rattle.prover_core.specs.Progress.{part, next_of}

-- the first unfinished part of an execution that the tip assigns and that is not cancelled
abbrev pub present_kind : {S : Type 0} → Lang S → List Event → Doc → ℕ → Option PartKind
present_kind l h d e = if assigns d.tip e && not (has d.cancelled e) then next_of l h d e else None

-- the task of a fork, once its evaluation is finished
abbrev pub forking : Task
forking = record { kind = kind.Fork; priority = priority.Fork; inputs = []; held = false }

-- the task that comes behind a finished part
abbrev pub task_behind : Option PartKind → Option Task
task_behind None = None
task_behind (Some k) = Some forking

-- a worker holds it
abbrev pub is_held : Standing → Bool
is_held (Held who) = true
is_held s = false

-- the task is that of the part, by how parts stand: it waits for the evaluations that are not
-- finished
pub record IsTaskOf (stands : Part → Standing) (tip : Version) (homes : List Home) (e : ℕ)
    (k : PartKind) (t : Task) : Type 0 where
  pub same_kind : t.kind ≡ k
  pub urgent : t.priority ≡ priority_of tip (part e k)
  pub waits : (f : ℕ) → has t.inputs f
      ≡ (has (waits_for homes (part e k)) f && not (is_done (stands (evaluation f))))
  pub held : t.held ≡ is_held (stands (part e k))

-- there is a task exactly where there is such a part
abbrev pub AreTasks : (Part → Standing) → Version → List Home → ℕ → Option PartKind → Option Task
    → Type 0
AreTasks stands tip homes e None None = ⊤
AreTasks stands tip homes e (Some k) (Some t) = IsTaskOf stands tip homes e k t
AreTasks stands tip homes e k t = ⊥

-- the execution's task is that of its present part, after these events
abbrev pub HasTask : {S : Type 0} → Lang S → List Event → Doc → ℕ → Option Task → Type 0
HasTask l h d e t = AreTasks (standing h) d.tip d.homes e (present_kind l h d e) t
