-- The document after a list of events, the newest first (Wenzel, ITP 2014; ids and cancellation by
-- updates are this project's own).
use Rattle.std.specs.Prelude.{ℕ, Bool, not, ◌&&◌, if◌then◌else◌, List, [], ◌∷◌, ◌++◌, filter}
use Rattle.doc_nodes.specs.Imports.{NodeList}
use Rattle.core_tables.specs.declared.versions.Live.{Live}
use Rattle.core_tables.specs.declared.versions.Removing.TheVariants as answer
use Rattle.core_tables.specs.Removal.{left}
use Rattle.exec_rules.specs.declared.home.Home.{Home}
use Rattle.exec_rules.specs.declared.version.Version.{Version}
use Rattle.exec_rules.specs.Kept.{BlobList}
use Rattle.exec_rules.specs.Assigning.{Update, Assignment, greater, assignment}
use Rattle.language.specs.Lang.{Lang}
use Rattle.core_rules.specs.declared.event.Event.{Event}
use Rattle.core_rules.specs.declared.event.Event.TheVariants as event
use Rattle.core_rules.specs.Numbered.{next_number, grown}
use Rattle.core_rules.specs.Assigned.{executions_of, assigns, command_ids}
use Rattle.core_rules.specs.Standing.{is_open}

-- the live versions, oldest first; the tip; the greatest ids so far of versions and of commands;
-- what executions go by, the newest first; and which of them are cancelled
pub record Doc : Type 0 where
  pub live : List (Live Version)
  pub tip : Version
  pub last : ℕ
  pub commands : ℕ
  pub homes : List Home
  pub cancelled : List ℕ

-- the version before any update
abbrev pub start_version : Version
start_version = record { nodes = []; blobs = []; assigned = [] }

-- the document before any event
abbrev pub empty_doc : Doc
empty_doc = record {
  live = [];
  tip = start_version;
  last = 0;
  commands = 0;
  homes = [];
  cancelled = [];
}

-- the greatest of these numbers and n
abbrev pub greatest : ℕ → List ℕ → ℕ
greatest n [] = n
greatest n (x ∷ xs) = greatest (greater n x) xs

-- what an update to these nodes and blobs goes by
abbrev pub update_of : Doc → NodeList → BlobList → Update
update_of d nodes blobs =
    record { tip = d.tip; nodes = nodes; blobs = blobs; cancelled = d.cancelled }

-- what it assigns
abbrev pub assignment_of : Doc → NodeList → BlobList → Assignment
assignment_of d nodes blobs = assignment (update_of d nodes blobs) (next_number d.homes)

-- the version that it makes
abbrev pub assigned_version : NodeList → BlobList → Assignment → Version
assigned_version nodes blobs a = record { nodes = nodes; blobs = blobs; assigned = a.assigned }

-- the executions that a new tip has no more, and of which a part is unfinished
abbrev pub dropped : (ℕ → Bool) → Version → Version → List ℕ
dropped opened tip new = filter (λ e. opened e && not (assigns new e)) (executions_of tip)

-- the document with a new version and its assignment
abbrev pub with_version : (ℕ → Bool) → Doc → ℕ → Version → Assignment → Doc
with_version opened d id new a = record {
  live = d.live ++ record { id = id; version = new } ∷ [];
  tip = new;
  last = id;
  commands = greatest d.commands (command_ids new.nodes);
  homes = grown d.homes a.homes;
  cancelled = dropped opened d.tip new ++ d.cancelled;
}

-- the document after an update
abbrev pub updated_doc : (ℕ → Bool) → Doc → ℕ → NodeList → BlobList → Assignment → Doc
updated_doc opened d id nodes blobs a = with_version opened d id (assigned_version nodes blobs a) a

-- one event more, where some executions have an unfinished part: nothing else is cancelled
abbrev pub doc_after : (ℕ → Bool) → Doc → Event → Doc
doc_after opened d (event.Update id nodes blobs) =
    updated_doc opened d id nodes blobs (assignment_of d nodes blobs)
doc_after opened d (event.Cancel e) =
    record d { cancelled = if opened e then e ∷ d.cancelled else d.cancelled }
doc_after opened d (event.Remove ids) = record d { live = left answer.Removed ids d.live }
doc_after opened d e = d

-- one event more, behind these
abbrev pub next_doc : {S : Type 0} → Lang S → List Event → Doc → Event → Doc
next_doc l h d e = doc_after (is_open l h d.homes) d e

-- the document after these events
abbrev pub doc : {S : Type 0} → Lang S → List Event → Doc
doc l [] = empty_doc
doc l (e ∷ h) = next_doc l h (doc l h) e
