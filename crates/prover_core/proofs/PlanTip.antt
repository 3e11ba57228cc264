-- The version that an update makes by the tables of a core succeeds the tip.
use Rattle.std.proofs.Common.{◌≡◌, ℕ, ◌<◌, ◌≤◌, true, false, List, ◌∷◌, Some, ap, sym, subst, ◌∙◌, arith}
use Rattle.std.specs.Prelude.{slice_get}
use Rattle.pide_base.specs.Ids.{id_end}
use Rattle.doc_nodes.specs.Imports.{NodeList}
use Rattle.core_tables.specs.Rows.{Row as TableRow, execution_of}
use Rattle.exec_rules.specs.declared.row.Row.{Row}
use Rattle.exec_rules.specs.declared.version.Version.{Version}
use Rattle.exec_rules.specs.Kept.{BlobList}
use Rattle.exec_rules.specs.Assigning.{Update, Assignment, rows_in, assignment}
use Rattle.language.specs.Lang.{Lang}
use Rattle.core_rules.specs.declared.event.Event.{Event}
use Rattle.core_rules.specs.declared.event.Event.TheVariants as event
use Rattle.core_rules.specs.Numbered.{next_number}
use Rattle.core_rules.specs.Assigned.{assigns, is_assigned}
use Rattle.core_rules.specs.Standing.{has_ended}
use Rattle.core_rules.specs.Doc.{Doc, doc, update_of, assignment_of, assigned_version}
use Rattle.core_rules.specs.Legal.{IsLegal}
use Rattle.core_rules.specs.Updates.{FitsUpdate}
use Rattle.core_jobs.specs.declared.done.Done.{Done}
use Rattle.update_plans.specs.Beside.{HasKept}
use Rattle.update_plans.specs.Cancelled.{cancelled_in}
use Rattle.update_plans.specs.Steps.{update_by, made_by_update, IsSuccessor, Succeeds}
use Rattle.prover_core.specs.Kept.{Tables, IsKept}
use Rattle.prover_core.proofs.TipLive.{tip_live}
use Rattle.prover_core.proofs.TipTold.{agree}
use Rattle.prover_core.specs.Laws.{PlanLaws}

-- an update of a document that goes on is asked, where the tables are kept and hold these rows
pub record Asks {S : Type 0} (l : Lang S) (h : List Event) (t : Tables S) (id : ℕ) (nodes : NodeList) (blobs : BlobList)
    (rows : List (TableRow (Done S))) : Type 0 where
  pub kept : IsKept l h t
  pub all : PlanLaws l
  pub going : has_ended h ≡ false
  pub fits : (assignment_of (doc l h) nodes blobs).next ≤ id_end → FitsUpdate (doc l h) id nodes blobs
  pub are : (e : ℕ) → execution_of rows e ≡ t.rows e

-- the same, by another name of what has happened
module _ {S : Type 0} {l : Lang S} {h : List Event} {t : Tables S} (k : IsKept l h t) where
  pub asks_in : (all : PlanLaws l) (id : ℕ) (nodes : NodeList) (blobs : BlobList) (past : List Event) → h ≡ past → has_ended past ≡ false
      → ((assignment_of (doc l past) nodes blobs).next ≤ id_end → FitsUpdate (doc l past) id nodes blobs)
      → (rows : List (TableRow (Done S))) → ((e : ℕ) → execution_of rows e ≡ t.rows e) → Asks l h t id nodes blobs rows
  asks_in all id nodes blobs past same going fits rows are = record {
    kept = k;
    all = all;
    going = ap has_ended same ∙ going;
    fits = subst (λ xs. (assignment_of (doc l xs) nodes blobs).next ≤ id_end → FitsUpdate (doc l xs) id nodes blobs) (sym same) fits;
    are = are;
  }

module _ {S : Type 0} {l : Lang S} {h : List Event} {t : Tables S} {id : ℕ} {nodes : NodeList} {blobs : BlobList} {rows : List (TableRow (Done S))}
    (a : Asks l h t id nodes blobs rows) where
  abbrev pub d : Doc
  d = doc l h

  abbrev pub more : List Event
  more = event.Update id nodes blobs ∷ h

  abbrev pub made : Assignment
  made = assignment_of d nodes blobs

  abbrev pub new : Version
  new = assigned_version nodes blobs made

  abbrev pub u : Update
  u = update_by rows d.tip nodes blobs

  pub live : (e : ℕ) → assigns d.tip e ≡ true → is_assigned d.live e ≡ true
  live = tip_live l h t a.kept

  pub same_made : assignment u (next_number d.homes) ≡ made
  same_made = a.all.same d.tip nodes blobs (cancelled_in rows) d.cancelled (next_number d.homes) (agree l h t a.kept rows a.are)

  pub same_new : made_by_update u (next_number d.homes) ≡ new
  same_new = ap (λ (x : Assignment). assigned_version nodes blobs x) same_made

  pub below : (e : ℕ) → assigns d.tip e ≡ true → e < next_number d.homes
  below e is = let le = a.all.update.made h e a.kept.legal (live e is) in omega (arith, le)

  legal_then : made.next ≤ id_end → IsLegal l more
  legal_then le = (a.kept.legal, (a.going, a.fits le))

  keeps : (name : List ℕ) (i : ℕ) (row : Row) → slice_get (rows_in new name) i ≡ Some row → HasKept d.tip (slice_get (rows_in d.tip name) i) row
  keeps name i row at =
      let so = a.all.update.held (update_of d nodes blobs) (next_number d.homes) name i row at in
      record {
        evaluation = λ is. so.evaluation (below row.evaluation is);
        print = λ q printed is. so.print q printed (below q is);
      }

  -- the version that is made succeeds the tip
  pub succeeds : Succeeds u (next_number d.homes)
  succeeds le = subst (λ (v : Version). IsSuccessor d.tip v) (sym same_new) (record {
    had_places = λ e is. a.all.update.found h e a.kept.legal is;
    have_places = λ e is. a.all.update.found more e legal is;
    stood_once = λ name other i j e r s at on here there. a.all.once h name other i j e r s a.kept.legal at on here there;
    stand_once = λ name other i j e r s at on here there. a.all.once more name other i j e r s legal at on here there;
    keeps = keeps;
  })
    where
      legal : IsLegal l more
      legal = legal_then (subst (λ (x : Assignment). x.next ≤ id_end) same_made le)

  pub limit_then : id_end < (assignment u (next_number d.homes)).next → id_end < made.next
  limit_then lt = subst (λ (x : Assignment). id_end < x.next) same_made lt
