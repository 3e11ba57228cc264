-- What is known of histories, documents and updates.
use Rattle.std.proofs.Common.{◌≡◌, ◌↔◌, ℕ, ◌<◌, ◌≤◌, true, false, List, length, Some}
use Rattle.std.specs.Prelude.{slice_get}
use Rattle.text_words.specs.Members.{has}
use Rattle.pide_base.specs.declared.part.Part.{Part}
use Rattle.doc_nodes.specs.Imports.{NodeList}
use Rattle.core_tables.specs.declared.versions.Live.{Live}
use Rattle.exec_rules.specs.declared.row.Row.{Row}
use Rattle.exec_rules.specs.declared.version.Version.{Version}
use Rattle.exec_rules.specs.Assigning.{rows_in}
use Rattle.exec_rules.specs.Listed.{executions}
use Rattle.buffer_rules.specs.Nodes.{nodes_after}
use Rattle.buffer_rules.specs.Sheets.{SheetList}
use Rattle.language.specs.Lang.{Lang}
use Rattle.core_rules.specs.declared.event.Event.{Event}
use Rattle.core_rules.specs.Assigned.{assigns, is_assigned}
use Rattle.core_rules.specs.Standing.{standing, Free, Held, held, is_unclaimed}
use Rattle.core_rules.specs.Doc.{doc}
use Rattle.core_rules.specs.Ready.{has_inputs}
use Rattle.core_rules.specs.FromScratch.{AllFromScratch}
use Rattle.core_rules.specs.Legal.{IsLegal as IsLegalList}
use Rattle.core_rules.specs.Shown.{parts_shown, scratch_shown}
use Rattle.session_rules.specs.declared.service.Service.{Service}
use Rattle.session_rules.specs.Heard.{Heard}
use Rattle.session_rules.specs.History.{session}
use Rattle.session_rules.specs.Legal.{IsLegal}
use Rattle.session_rules.specs.Promises.{EachMessage, KeepsSo}
use Rattle.editor_laws.proofs.Known.{AreFilled}
use Rattle.editor_laws.proofs.KeptSpots.{KeptLaw}

-- the laws on histories and documents
pub record Facts {S : Type 0} (l : Lang S) : Type 0 where
  pub legal : (service : Service) (h : List Heard) → IsLegal l service h → IsLegalList l (session l service h).events
  pub keeps : (service : Service) (h : List Heard) → IsLegal l service h → EachMessage (KeepsSo l service) h
  pub each : (h : List Event) (k : ℕ) (one : Live Version) → IsLegalList l h → slice_get (doc l h).live k ≡ Some one
      → AllFromScratch l (doc l h) one.version
  pub shown : (h : List Event) (k : ℕ) (one : Live Version) (name : List ℕ) → IsLegalList l h → slice_get (doc l h).live k ≡ Some one
      → parts_shown l h (doc l h) one.version name ≡ scratch_shown l h one.version name
  pub tells : (h : List Event) (who : ℕ) (p : Part) → IsLegalList l h → (held h who ≡ Some p) ↔ (standing h p ≡ Held who)
  pub made : (h : List Event) (e : ℕ) → IsLegalList l h → is_assigned (doc l h).live e ≡ true → e ≤ length (doc l h).homes
  pub unmade : (h : List Event) (p : Part) → IsLegalList l h → length (doc l h).homes < p.exec → standing h p ≡ Free
  pub begun : (h : List Event) (p : Part) → IsLegalList l h → is_unclaimed (standing h p) ≡ false → has_inputs h (doc l h).homes p ≡ true
  pub there : (v : Version) (name : List ℕ) (i e : ℕ) (row : Row) → slice_get (rows_in v name) i ≡ Some row
      → has (executions row) e ≡ true → assigns v e ≡ true
  pub kept : KeptLaw
  pub filled : (tip : NodeList) (sheets : SheetList) (next : ℕ) → AreFilled (nodes_after tip sheets next).nodes
