-- What an editor sees of the nodes of a version (this project's own).
use Rattle.std.specs.Prelude.{◌≡◌, ℕ, ◌≤◌, true, false, List, [], ◌∷◌, length, flat_map, Some, Ok}
use Rattle.report_markup.specs.declared.report.Report.{Report}
use Rattle.doc_nodes.specs.Imports.{place_of}
use Rattle.exec_rules.specs.declared.version.Version.{Version}
use Rattle.exec_rules.specs.Assigning.{entries_in, rows_in}
use Rattle.message_values.specs.declared.editor_message.EditorMessage.TheVariants as asks
use Rattle.reply_messages.specs.declared.told.Told.TheVariants as tells
use Rattle.core_rules.specs.declared.event.Event.{Event}
use Rattle.core_rules.specs.Doc.{doc}
use Rattle.core_rules.specs.Shown.{parts_shown, pending}
use Rattle.core_rules.specs.Stuck.{is_settled, stuck_in}
use Rattle.session_rules.specs.declared.service.Service.{Service}
use Rattle.session_rules.specs.Heard.{Heard, Message}
use Rattle.session_rules.specs.Replies.{entry_replies}
use Rattle.session_rules.specs.Shown.{placed_reports}
use Rattle.isar_rules.specs.Isar.{isar}
use Rattle.isar_rules.specs.Kept.{errors_in}
use Rattle.soundness_laws.specs.Imports.{Needs}

-- each command of the node of a name has an evaluation
abbrev pub IsWhole : Version → List ℕ → Type 0
IsWhole v name = length (entries_in v name) ≤ length (rows_in v name)

-- nothing of the node is pending
abbrev pub HasNoPending : List Event → Version → List ℕ → Type 0
HasNoPending h v name = pending isar h (doc isar h) v name ≡ []

-- no error is among what is shown of the node, its prints included
abbrev pub ShowsNoError : List Event → Version → List ℕ → Type 0
ShowsNoError h v name = errors_in (flat_map placed_reports (parts_shown isar h (doc isar h) v
    name)) ≡ []

-- all of the node is checked, and no error is shown
pub record IsQuiet (h : List Event) (v : Version) (name : List ℕ) : Type 0 where
  pub whole : IsWhole v name
  pub checked : HasNoPending h v name
  pub clean : ShowsNoError h v name

-- the version is settled, and nothing of it is stuck
pub record HasSettled (h : List Event) (v : Version) : Type 0 where
  pub settled : is_settled isar h (doc isar h) v ≡ true
  pub unstuck : stuck_in isar h (doc isar h) v ≡ []

-- a snapshot of the node, with no edits pending, would tell no error now, and nothing as pending
pub record TellsNoError (service : Service) (h : List Heard) (id : ℕ) (name : List ℕ) : Type 0 where
  pub reports : List Report
  pub reply : entry_replies isar service h (Message (Ok (asks.Snapshot id name [])))
      ≡ tells.Markup id name reports [] false ∷ []
  pub clean : errors_in reports ≡ []

-- it holds of the node at a place and of all its imports, direct or not, by their names
abbrev pub OfEachNeeded : (List ℕ → Type 0) → Version → ℕ → Type 0
OfEachNeeded P v p = (q : ℕ) (name : List ℕ) → Needs v.nodes p q
    → place_of v.nodes name ≡ Some q → P name
