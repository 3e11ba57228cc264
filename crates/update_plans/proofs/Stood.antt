-- Nodes that an assignment marks as standing have stayed.
use Rattle.std.proofs.Common.{◌≡◌, ℕ, zero, suc, Bool, true, false, List, [], ◌∷◌, get_or, Option, Some, None, refl, ap, sym, subst, ◌≤◌, ◌∙◌}
use Rattle.std.proofs.lemmas.Bool.{false≢true}
use Rattle.std.specs.Prelude.{slice_get}
use Rattle.std.specs.Option.{option_map_or, option_and_then}
use Rattle.doc_nodes.specs.Looks.{marked}
use Rattle.doc_nodes.specs.declared.node.Node.{Node}
use Rattle.pide_base.specs.Ids.{id_end}
use Rattle.core_tables.specs.Rows.{Table}
use Rattle.doc_nodes.specs.Imports.{NodeList, place_of}
use Rattle.exec_rules.specs.Kept.{BlobList}
use Rattle.exec_rules.specs.declared.row.Assigned.{Assigned}
use Rattle.exec_rules.specs.declared.version.Version.{Version}
use Rattle.exec_rules.specs.Keys.{nothing_assigned}
use Rattle.exec_rules.specs.Assigning.{Update, entries_at, entries_in, rows_in, assignment}
use Rattle.exec_assign.specs.Telling.{update_version}
use Rattle.exec_assign.specs.Untouched.{AreUntouched}
use Rattle.exec_assign.specs.Work.{HasStood, HaveStood}
use Rattle.exec_assign.specs.Fitting.{RowsFit}
use Rattle.update_plans.specs.Beside.{HasStayed, HaveStayed, Follows}
use Rattle.update_plans.specs.Steps.{update_by, made_by_update, IsSuccessor, Succeeds}
use Rattle.update_plans.proofs.Named.{NodeOf, node_of}

rows_or : (all : List Assigned) (p : ℕ) → option_map_or (λ (a : Assigned). a.rows) (slice_get all p) [] ≡ (get_or all p nothing_assigned).rows
rows_or [] p = refl
rows_or (a ∷ all) zero = refl
rows_or (a ∷ all) (suc p) = rows_or all p

module _ (u : Update) (marks : List Bool) (assigned : List Assigned) (stood : HaveStood u marks (λ p. get_or assigned p nothing_assigned)) where
  abbrev now : Version
  now = update_version u assigned

  at_place : (name : List ℕ) (q : ℕ) → place_of u.nodes name ≡ Some q → marked marks q ≡ true → HasStayed u.tip now name
  at_place name q is marked_q =
      let node : NodeOf u.nodes name q = node_of u.nodes name q is in
      let so : HasStood u node.pair (get_or assigned q nothing_assigned) = stood q node.pair
      marked_q node.stands in
      record {
        entries = ap (λ o. option_map_or (entries_at u.nodes) o []) is
            ∙ ap (λ (o : Option (List ℕ × Node)). option_map_or (λ x. x.1.entries) o []) node.stands
            ∙ sym so.untouched.commands ∙ ap (entries_in u.tip) node.named;
        rows = ap (λ o. option_map_or (λ (a : Assigned). a.rows) (option_and_then (slice_get assigned) o) []) is
            ∙ rows_or assigned q ∙ sym (ap (λ o. option_map_or (λ (a : Assigned). a.rows) o []) so.had) ∙ ap (rows_in u.tip) node.named;
      }

  pub have_stayed : HaveStayed u.tip now marks
  have_stayed name is = go (place_of u.nodes name) refl is
    where
      go : (o : Option ℕ) → place_of u.nodes name ≡ o → option_map_or (marked marks) o false ≡ true → HasStayed u.tip now name
      go None at is = absurd (false≢true is)
      go (Some q) at is = at_place name q at is

  pub it_follows : IsSuccessor u.tip now → RowsFit now → Follows u.tip now marks
  it_follows s fits = record {
    stayed = have_stayed;
    had_places = s.had_places;
    have_places = s.have_places;
    stood_once = s.stood_once;
    stand_once = s.stand_once;
    keeps = s.keeps;
    fits = fits;
  }

-- what is untouched by one table is untouched by the same
pub untouched_then : {R : Type 0} (one other : Table R) (before : Version) (nodes : NodeList) (blobs : BlobList) (marks all : List Bool) → one ≡ other → marks ≡ all
    → AreUntouched (update_by other.rows before nodes blobs) all → AreUntouched (update_by one.rows before nodes blobs) marks
untouched_then one other before nodes blobs marks all same are so =
    subst (λ ms. AreUntouched (update_by one.rows before nodes blobs) ms) (sym are)
    (subst (λ (t : Table _). AreUntouched (update_by t.rows before nodes blobs) all) (sym same) so)

-- an update by one table is that by the same
pub same_update : {R : Type 0} (one other : Table R) (before : Version) (nodes : NodeList) (blobs : BlobList) (v : Update) → one ≡ other
    → v ≡ update_by one.rows before nodes blobs → v ≡ update_by other.rows before nodes blobs
same_update one other before nodes blobs v same is = is ∙ ap (λ (t : Table _). update_by t.rows before nodes blobs) same

module _ (u v : Update) (next : ℕ) (assigned : List Assigned) (version : Version) (same : v ≡ u) (are : assigned ≡ (assignment v next).assigned)
    (is : version ≡ record { nodes = u.nodes; blobs = u.blobs; assigned = assigned }) (fit : RowsFit (update_version v assigned)) where
  pub fits_then : RowsFit version
  fits_then = subst RowsFit (ap (λ (w : Update). update_version w assigned) same ∙ sym is) fit

  pub made_then : version ≡ made_by_update u next
  made_then = is ∙ ap (update_version u) are ∙ ap
      (λ (w : Update). update_version u (assignment w next).assigned) same

  pub follows_then : (standing marks : List Bool) (n : ℕ) → HaveStood v standing (λ p. get_or assigned p nothing_assigned) → n ≡ (assignment v next).next → n ≤ id_end
      → Succeeds u next → marks ≡ standing → Follows u.tip version marks
  follows_then standing marks n stood count within succeeds ms =
      subst (λ (w : Version). Follows u.tip w marks) (sym is)
      (subst (λ bs. Follows u.tip (update_version u assigned) bs) (sym ms)
      (it_follows u standing assigned (subst (λ (w : Update). HaveStood w standing (λ p. get_or assigned p nothing_assigned)) same stood)
      (subst (λ (w : Version). IsSuccessor u.tip w) (sym made_then ∙ is) (succeeds (subst (λ (w : Update). (assignment w next).next ≤ id_end) same
      (subst (λ m. m ≤ id_end) count within))))
      (subst RowsFit is fits_then)))
