-- What finished parts are replied, in the words of the document from nothing (this project's own).
use Rattle.std.specs.Prelude.{◌≡◌, ℕ, ◌<◌, ◌≤◌, List, [], ◌∷◌, ◌++◌, length, slice_get, ⊤, Option, Some}
use Rattle.std.specs.Option.{option_map_or}
use Rattle.pide_base.specs.declared.part.Part.{Part}
use Rattle.pide_base.specs.declared.part.PartKind.{PartKind}
use Rattle.pide_base.specs.declared.part.PartKind.TheVariants as kind
use Rattle.report_markup.specs.declared.report.Report.{Report}
use Rattle.doc_nodes.specs.Imports.{NodeList, place_of}
use Rattle.core_tables.specs.declared.versions.Live.{Live}
use Rattle.exec_rules.specs.declared.row.Row.{Row}
use Rattle.exec_rules.specs.declared.version.Version.{Version}
use Rattle.exec_rules.specs.Assigning.{rows_in}
use Rattle.exec_rules.specs.Kept.{BlobList}
use Rattle.language.specs.Lang.{Lang}
use Rattle.reply_messages.specs.declared.told.Told.{Told}
use Rattle.reply_messages.specs.declared.told.Told.TheVariants as tells
use Rattle.core_rules.specs.declared.event.Event.{Event}
use Rattle.core_rules.specs.declared.event.Event.TheVariants.{Update}
use Rattle.core_rules.specs.Doc.{doc}
use Rattle.core_rules.specs.Scratch.{scratch_at}
use Rattle.core_rules.specs.Settings.{Setting, made_of, forked, printed, state_behind}
use Rattle.session_rules.specs.declared.service.Service.{Service}
use Rattle.session_rules.specs.Heard.{Heard, Finished}
use Rattle.session_rules.specs.Session.{Session}
use Rattle.session_rules.specs.History.{session}
use Rattle.session_rules.specs.Replies.{entry_replies}
use Rattle.session_rules.specs.Shown.{protocol_reports}

-- the execution of a row that has a part of this kind
abbrev pub execution_for : PartKind → Row → Option ℕ
execution_for kind.Print row = row.print
execution_for evaluating row = Some row.evaluation

-- a version assigns the part to the command at a place of the node of a name
pub record IsAssignedAt (v : Version) (name : List ℕ) (i : ℕ) (part : Part) : Type 0 where
  pub row : Row
  pub stands : slice_get (rows_in v name) i ≡ Some row
  pub has_it : execution_for part.kind row ≡ Some part.exec

-- what a part of this kind reports of a command that is run from nothing: a print comes behind it
abbrev pub scratch_reports : {S : Type 0} → Lang S → PartKind → Setting S → List Report
scratch_reports l kind.Eval s = (made_of l s).reports
scratch_reports l kind.Fork s = forked l s
scratch_reports l kind.Print s = printed l (record s { state = state_behind l s })

-- the reply tells what checking a version from nothing gives for the part of the command at a place
pub record TellsScratch {S : Type 0} (l : Lang S) (s : Session) (v : Version) (name : List ℕ)
    (i : ℕ) (part : Part) (reply : List Told) : Type 0 where
  pub works_on : Setting S
  pub scratch : slice_get (option_map_or (scratch_at l v.nodes v.blobs) (place_of v.nodes name) [])
      i ≡ Some works_on
  pub told : reply ≡ tells.Report part
      (protocol_reports s.protocol works_on.source (scratch_reports l part.kind works_on)) ∷ []

-- the update that made an execution, among what happened
pub record IsMade {S : Type 0} (l : Lang S) (h : List Event) (exec : ℕ) : Type 0 where
  pub since : List Event
  pub id : ℕ
  pub nodes : NodeList
  pub blobs : BlobList
  pub before : List Event
  pub happened : h ≡ since ++ Update id nodes blobs ∷ before
  pub was_not : length (doc l before).homes < exec
  pub was_then : exec ≤ length (doc l (Update id nodes blobs ∷ before)).homes

-- the version that it made
abbrev pub home_version : {S : Type 0} (l : Lang S) {h : List Event} {exec : ℕ} → IsMade l h exec
    → Version
home_version l made = (doc l (Update made.id made.nodes made.blobs ∷ made.before)).tip

-- the reply tells this of the version and the place at which the part's execution was made
pub record TellsHome {S : Type 0} (l : Lang S) (s : Session) (part : Part) (reply : List Told)
    : Type 0 where
  pub made : IsMade l s.events part.exec
  pub name : List ℕ
  pub place : ℕ
  pub assigned : IsAssignedAt (home_version l made) name place part
  pub told : TellsScratch l s (home_version l made) name place part reply

-- so the reply of a finished part: for its home, and for each version that was live at a moment up
-- to now and assigned it, as one does that is live now
pub record ReportsSo {S : Type 0} (l : Lang S) (service : Service) (h : List Heard) (who : ℕ)
    (part : Part) : Type 0 where
  pub home : TellsHome l (session l service h) part (entry_replies l service h (Finished who part))
  pub each : (more before : List Event) (k : ℕ) (one : Live Version) (name : List ℕ) (i : ℕ)
      → (session l service h).events ≡ more ++ before
      → slice_get (doc l before).live k ≡ Some one → IsAssignedAt one.version name i part
      → TellsScratch l (session l service h) one.version name i part
      (entry_replies l service h (Finished who part))
  pub live : (k : ℕ) × (one : Live Version) × (name : List ℕ) × (i : ℕ)
      × (slice_get (doc l (session l service h).events).live k ≡ Some one)
      × IsAssignedAt one.version name i part

-- of each part that was finished in a history, behind the entries before it
abbrev pub EachFinished : (List Heard → ℕ → Part → Type 0) → List Heard → Type 0
EachFinished P [] = ⊤
EachFinished P (Finished who part ∷ h) = EachFinished P h × P h who part
EachFinished P (other ∷ h) = EachFinished P h
