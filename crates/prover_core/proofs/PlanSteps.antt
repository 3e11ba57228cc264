-- What is worked out of an update.
use Rattle.std.proofs.Common.{◌≡◌, ℕ, ◌<◌, ◌≤◌, false, not, ◌&&◌, List, map, reverse, sym, subst}
use Rattle.std.specs.List.{AllByRecursion}
use Rattle.text_words.specs.Members.{has}
use Rattle.pide_base.specs.Ids.{id_end}
use Rattle.doc_nodes.specs.Imports.{NodeList}
use Rattle.core_tables.specs.Rows.{Row as TableRow}
use Rattle.exec_rules.specs.declared.version.Version.{Version}
use Rattle.exec_rules.specs.Kept.{BlobList}
use Rattle.exec_rules.specs.Assigning.{assignment}
use Rattle.exec_rules.specs.Listed.{listed}
use Rattle.exec_assign.specs.Fitting.{RowsFit}
use Rattle.exec_assign.specs.Told.{told_node}
use Rattle.core_rules.specs.Assigned.{assigns, is_visible}
use Rattle.update_plans.specs.declared.steps.Steps.{Steps}
use Rattle.update_plans.specs.Begun.{AreBegun}
use Rattle.update_plans.specs.Steps.{update_by, made_by_update, Succeeds}

-- the steps of an update, as they are worked out
pub record AreSteps {R : Type 0} (rows : List (TableRow R)) (before : Version) (nodes : NodeList) (blobs : BlobList) (next : ℕ) (s : Steps) : Type 0 where
  pub version : s.version ≡ made_by_update (update_by rows before nodes blobs) next
  pub next_is : s.next ≡ (assignment (update_by rows before nodes blobs) next).next
  pub within : s.next ≤ id_end
  pub fit : RowsFit s.version
  pub fresh : AreBegun rows next (assignment (update_by rows before nodes blobs) next).homes (reverse s.fresh.items)
  pub dropped : (e : ℕ) → has s.dropped.items e ≡ (assigns before e && not (assigns s.version e))
  pub sees : AllByRecursion (λ sight. is_visible s.version sight.exec ≡ sight.visible) s.sights.items
  pub unseen : (e : ℕ) → has (map (λ sight. sight.exec) s.sights.items) e ≡ false → is_visible s.version e ≡ is_visible before e
  pub told : map told_node s.told.items ≡ listed before s.version

-- the same, by the names of the version before and of the next number
pub steps_are : {R : Type 0} (rows : List (TableRow R)) (before tip : Version) (nodes : NodeList) (blobs : BlobList) (next n : ℕ) (s : Steps) → before ≡ tip
    → next ≡ n → AreSteps rows before nodes blobs next s → AreSteps rows tip nodes blobs n s
steps_are rows before tip nodes blobs next n s same is are =
    subst (λ (v : Version). AreSteps rows v nodes blobs n s) same (subst (λ m. AreSteps rows before nodes blobs m s) is are)

pub succeeds_then : {R : Type 0} (rows : List (TableRow R)) (before tip : Version) (nodes : NodeList) (blobs : BlobList) (next n : ℕ) → before ≡ tip
    → next ≡ n → Succeeds (update_by rows tip nodes blobs) n → Succeeds (update_by rows before nodes blobs) next
succeeds_then rows before tip nodes blobs next n same is succeeds =
    subst (λ (v : Version). Succeeds (update_by rows v nodes blobs) next) (sym same)
    (subst (λ m. Succeeds (update_by rows tip nodes blobs) m) (sym is) succeeds)

pub limit_at : {R : Type 0} (rows : List (TableRow R)) (before tip : Version) (nodes : NodeList) (blobs : BlobList) (next n : ℕ) → before ≡ tip → next ≡ n
    → id_end < (assignment (update_by rows before nodes blobs) next).next → id_end < (assignment (update_by rows tip nodes blobs) n).next
limit_at rows before tip nodes blobs next n same is over =
    subst (λ (v : Version). id_end < (assignment (update_by rows v nodes blobs) n).next) same
    (subst (λ m. id_end < (assignment (update_by rows before nodes blobs) m).next) is over)
