-- What laws say of an update (this project's own).
use Rattle.std.specs.Prelude.{◌≡◌, ℕ, ◌+◌, ◌<◌, ◌≤◌, true, false, List, ◌∷◌, length, Some, slice_get}
use Rattle.text_words.specs.Members.{has}
use Rattle.pide_base.specs.declared.part.Part.{Part}
use Rattle.doc_nodes.specs.Imports.{NodeList}
use Rattle.exec_rules.specs.declared.row.Row.{Row}
use Rattle.exec_rules.specs.declared.version.Version.{Version}
use Rattle.exec_rules.specs.Kept.{BlobList}
use Rattle.exec_rules.specs.Assigning.{Update, rows_in, assignment}
use Rattle.exec_rules.specs.Listed.{executions}
use Rattle.exec_assign.specs.Agreeing.{AgreeAt}
use Rattle.exec_assign.specs.Numbered.{new_in, with_numbers, AreBelow, AreHeld}
use Rattle.exec_assign.specs.Telling.{update_version}
use Rattle.language.specs.Lang.{Lang}
use Rattle.core_rules.specs.declared.event.Event.{Event}
use Rattle.core_rules.specs.declared.event.Event.TheVariants as event
use Rattle.core_rules.specs.Assigned.{assigns, is_assigned}
use Rattle.core_rules.specs.Standing.{Free, standing}
use Rattle.core_rules.specs.Doc.{doc}
use Rattle.core_rules.specs.Legal.{IsLegal}
use Rattle.core_rules.specs.Sources.{HasHome}
use Rattle.core_rules.specs.Placed.{RowOf}

-- what the tip assigns goes by something and has a place, what a live version assigns was made, and
-- nobody works on what was not; nothing that was cancelled is assigned again, and each new
-- execution has the next number
pub record UpdateLaws {S : Type 0} (l : Lang S) : Type 0 where
  pub tip : (h : List Event) (e : ℕ) → IsLegal l h → assigns (doc l h).tip e ≡ true
      → HasHome l (doc l h) (doc l h).tip e
  pub made : (h : List Event) (e : ℕ) → IsLegal l h → is_assigned (doc l h).live e ≡ true
      → e ≤ length (doc l h).homes
  pub unmade : (h : List Event) (p : Part) → IsLegal l h → length (doc l h).homes < p.exec
      → standing h p ≡ Free
  pub not_again : (h : List Event) (id : ℕ) (nodes : NodeList) (blobs : BlobList) (e : ℕ)
      → has (doc l h).cancelled e ≡ true
      → assigns (doc l (event.Update id nodes blobs ∷ h)).tip e ≡ false
  pub found : (h : List Event) (e : ℕ) → IsLegal l h → assigns (doc l h).tip e ≡ true
      → RowOf (doc l h).tip e
  pub there : (v : Version) (name : List ℕ) (i e : ℕ) (row : Row)
      → slice_get (rows_in v name) i ≡ Some row → has (executions row) e ≡ true
      → assigns v e ≡ true
  pub held : (u : Update) (first : ℕ)
      → AreHeld first u.tip (update_version u (assignment u first).assigned)
  pub new : (u : Update) (first : ℕ) → AreBelow first u.tip
      → new_in u first (assignment u first).assigned
      ≡ with_numbers first (assignment u first).homes
  pub numbers : (u : Update) (next : ℕ)
      → (assignment u next).next ≡ next + length (assignment u next).homes

-- the same, an execution stands in one row of the tip, and of what is cancelled only that counts
-- which the tip assigns
pub record PlanLaws {S : Type 0} (l : Lang S) : Type 0 where
  pub update : UpdateLaws l
  pub once : (h : List Event) (name other : List ℕ) (i j e : ℕ) (r s : Row) → IsLegal l h
      → slice_get (rows_in (doc l h).tip name) i ≡ Some r
      → slice_get (rows_in (doc l h).tip other) j ≡ Some s
      → has (executions r) e ≡ true → has (executions s) e ≡ true → (name ≡ other) × (i ≡ j)
  pub same : (tip : Version) (nodes : NodeList) (blobs : BlobList) (one other : List ℕ) (next : ℕ)
      → AgreeAt tip one other
      → assignment (record { tip = tip; nodes = nodes; blobs = blobs; cancelled = one }) next
      ≡ assignment (record { tip = tip; nodes = nodes; blobs = blobs; cancelled = other }) next
