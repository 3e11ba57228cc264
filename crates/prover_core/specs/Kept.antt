-- What a core keeps (this project's own): by all that has happened, each table is told.
use Rattle.std.specs.Prelude.{◌≡◌, ℕ, ◌<◌, ◌≤◌, Bool, true, ◌&&◌, if◌then◌else◌, List, Option, Some, None}
use Rattle.text_words.specs.Members.{has}
use Rattle.pide_base.specs.Ids.{id_end}
use Rattle.pide_base.specs.declared.part.Part.{Part}
use Rattle.core_tables.specs.Live.{History, tip_of}
use Rattle.core_tables.specs.declared.execution.Execution.{Execution}
use Rattle.core_tables.specs.declared.task.Standing.{Standing as Task}
use Rattle.exec_rules.specs.declared.home.Home.{Home}
use Rattle.exec_rules.specs.declared.version.Version.{Version}
use Rattle.exec_assign.specs.Fitting.{RowsFit}
use Rattle.language.specs.Lang.{Lang}
use Rattle.core_jobs.specs.declared.done.Done.{Done}
use Rattle.core_rules.specs.declared.event.Event.{Event}
use Rattle.core_rules.specs.Numbered.{numbered, next_number}
use Rattle.core_rules.specs.Assigned.{assigns, is_assigned}
use Rattle.core_rules.specs.Settings.{Setting, setting}
use Rattle.core_rules.specs.Standing.{held, has_ended}
use Rattle.core_rules.specs.Doc.{Doc, doc, start_version}
use Rattle.core_rules.specs.Legal.{IsLegal}
use Rattle.version_losses.specs.declared.losses.Loss.{Loss}
use Rattle.version_losses.specs.Losses.{AreLosses}
use Rattle.prover_core.specs.Progress.{row_of, next_of, InOrder, completed_in}
use Rattle.prover_core.specs.Tasks.{HasTask}

-- the tables of a core, each read by its key; how many parts are held, and how many more tasks
-- there is room for; how many tasks there are; what of the tip is cancelled, and how many more of
-- it can be noted
pub record Tables (S : Type 0) : Type 0 where
  pub versions : History Version
  pub losses : List Loss
  pub next : ℕ
  pub rows : ℕ → Option (Execution (Done S))
  pub homes : ℕ → Option Home
  pub holders : ℕ → Option Part
  pub holding : ℕ
  pub tasks : ℕ → Option Task
  pub room : ℕ
  pub count : ℕ
  pub ended : Bool
  pub cancelled : List ℕ
  pub spare : ℕ

-- what an execution goes by that a live version assigns
abbrev pub home_of : Doc → ℕ → Option Home
home_of d e = if is_assigned d.live e then numbered d.homes e else None

-- the number that came next when a version was made: it has all of the tip's executions below it
pub record IsBehind (d : Doc) (version : Version) (n : ℕ) : Type 0 where
  pub within : n ≤ next_number d.homes
  pub above : (e : ℕ) → assigns version e ≡ true → e < n
  pub still : (e : ℕ) → assigns d.tip e ≡ true → e < n → assigns version e ≡ true

-- it is known what an execution goes by and works on
pub record IsKnown {S : Type 0} (l : Lang S) (homes : List Home) (e : ℕ) : Type 0 where
  pub home : Home
  pub homed : numbered homes e ≡ Some home
  pub works_on : Setting S
  pub setting_is : setting l homes e ≡ Some works_on

-- they are told by all that has happened: the live versions, with what was lost by them and the
-- numbers that came next when they were made; the next execution; of each execution that a live
-- version assigns how far it is, and what it goes by; who holds what; the tasks of the tip; whether
-- all has ended, and what of the tip is cancelled
pub record IsKept {S : Type 0} (l : Lang S) (h : List Event) (t : Tables S) : Type 0 where
  pub legal : IsLegal l h
  pub start_is : t.versions.start ≡ start_version
  pub live : t.versions.live ≡ (doc l h).live
  pub tip : tip_of t.versions ≡ (doc l h).tip
  pub rows_fit : RowsFit (doc l h).tip
  pub losses : AreLosses (doc l h).tip (next_number (doc l h).homes) 0 t.losses (doc l h).live
  pub next_is : t.next ≡ next_number (doc l h).homes
  pub within : t.next ≤ id_end
  pub rows : (e : ℕ) → t.rows e ≡ row_of l h (doc l h) e
  pub homes : (e : ℕ) → t.homes e ≡ home_of (doc l h) e
  pub known : (e : ℕ) → is_assigned (doc l h).live e ≡ true → IsKnown l (doc l h).homes e
  pub in_order : (e : ℕ) → InOrder (completed_in h e)
  pub holders : (who : ℕ) → t.holders who ≡ held h who
  -- what is held is the first unfinished part of its execution
  pub held_next : (who : ℕ) (p : Part) → held h who ≡ Some p
      → next_of l h (doc l h) p.exec ≡ Some p.kind
  pub tasks : (e : ℕ) → HasTask l h (doc l h) e (t.tasks e)
  pub ended : t.ended ≡ has_ended h
  pub cancelled : (e : ℕ) → has t.cancelled e
      ≡ (assigns (doc l h).tip e && has (doc l h).cancelled e)
  -- a finished evaluation whose command forks is followed by its fork's task, in room that is there
  pub room : t.holding ≤ t.room
  -- what has a task can be cancelled, and is noted in room that is there
  pub spare : t.count ≤ t.spare
