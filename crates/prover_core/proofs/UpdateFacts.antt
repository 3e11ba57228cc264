-- An update of a document whose tables are kept.
use Rattle.std.proofs.Common.{◌≡◌, ℕ, suc, true, not, ◌&&◌, List, ◌∷◌, length, Option}
use Rattle.text_words.specs.Members.{has}
use Rattle.doc_nodes.specs.Imports.{NodeList}
use Rattle.core_tables.specs.Live.{History}
use Rattle.core_tables.specs.declared.execution.Execution.{Execution}
use Rattle.core_tables.specs.declared.task.Standing.{Standing as Task}
use Rattle.exec_rules.specs.declared.home.Home.{Home}
use Rattle.exec_rules.specs.declared.version.Version.{Version}
use Rattle.exec_rules.specs.Kept.{BlobList}
use Rattle.language.specs.Lang.{Lang}
use Rattle.core_rules.specs.declared.event.Event.{Event}
use Rattle.core_rules.specs.declared.event.Event.TheVariants as event
use Rattle.core_rules.specs.Assigned.{assigns, is_assigned}
use Rattle.core_rules.specs.Doc.{Doc, doc, assignment_of, assigned_version}
use Rattle.core_rules.specs.Sources.{HasHome}
use Rattle.core_jobs.specs.declared.done.Done.{Done}
use Rattle.version_losses.specs.declared.losses.Loss.{Loss}
use Rattle.update_plans.specs.declared.beginning.Fresh.{Fresh}
use Rattle.prover_core.specs.Plans.{AreTasksFor}
use Rattle.prover_core.specs.Kept.{Tables, IsKept}
use Rattle.prover_core.proofs.FreshPlan.{homes_in, tasks_in}
use Rattle.prover_core.proofs.NewVersion.{NewLaws}

-- the tables with these in place of their own; who holds what, and the end, stay
abbrev pub tables_with : {S : Type 0} → Tables S → History Version → List Loss → ℕ → (ℕ → Option (Execution (Done S))) → (ℕ → Option Home)
    → (ℕ → Option Task) → ℕ → ℕ → List ℕ → ℕ → Tables S
tables_with t versions losses next rows homes tasks room count cancelled spare = record t {
  versions = versions;
  losses = losses;
  next = next;
  rows = rows;
  homes = homes;
  tasks = tasks;
  room = room;
  count = count;
  cancelled = cancelled;
  spare = spare;
}

-- the tables are kept, the laws of the new version hold, and what the tip assigns is live and has a home
pub record Updating {S : Type 0} (l : Lang S) (h : List Event) (t : Tables S) (id : ℕ) (nodes : NodeList) (blobs : BlobList) : Type 0 where
  pub kept : IsKept l h t
  pub laws : NewLaws l h id nodes blobs
  pub tip_live : (e : ℕ) → assigns (doc l h).tip e ≡ true → is_assigned (doc l h).live e ≡ true
  pub tip_homes : (e : ℕ) → assigns (doc l h).tip e ≡ true → HasHome l (doc l h) (doc l h).tip e

module _ {S : Type 0} {l : Lang S} {h : List Event} {t : Tables S} {id : ℕ} {nodes : NodeList} {blobs : BlobList} (u : Updating l h t id nodes blobs) where
  -- the document before
  abbrev pub d : Doc
  d = doc l h

  abbrev pub more : List Event
  more = event.Update id nodes blobs ∷ h

  -- the document with the new version
  abbrev pub now : Doc
  now = doc l more

  abbrev pub new : Version
  new = assigned_version nodes blobs (assignment_of d nodes blobs)

  -- the executions that the update drops, and the new ones with their tasks, as they are planned
  pub record IsPlanned (dropped : List ℕ) (fresh : List Fresh) : Type 0 where
    pub drops : (e : ℕ) → has dropped e ≡ (assigns d.tip e && not (assigns new e))
    pub are : AreTasksFor h (suc (length d.homes)) (homes_in fresh) (tasks_in fresh)
    pub homes_are : homes_in fresh ≡ (assignment_of d nodes blobs).homes
