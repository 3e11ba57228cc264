-- What stands in no row at its place now is assigned no more, and the other way.
use Rattle.std.proofs.Common.{◌≡◌, inl, inr, ℕ, Bool, true, false, not, List, Option, Some, None, refl, ap, sym, subst, ◌∙◌}
use Rattle.std.proofs.lemmas.Bool.{false≢true, false_from_ne_true, not_from_false}
use Rattle.std.specs.Prelude.{◌&&◌, slice_get, flat_map}
use Rattle.std.specs.Option.{option_map, option_and_then}
use Rattle.text_words.specs.Members.{has}
use Rattle.doc_nodes.specs.declared.node.Node.{Node}
use Rattle.exec_rules.specs.declared.row.Row.{Row}
use Rattle.exec_rules.specs.declared.version.Version.{Version}
use Rattle.exec_rules.specs.Assigning.{rows_in}
use Rattle.exec_rules.specs.Listed.{executions}
use Rattle.exec_assign.specs.Told.{told_row}
use Rattle.core_rules.specs.Assigned.{assigns}
use Rattle.core_rules.specs.Placed.{RowOf}
use Rattle.core_rules.proofs.KnownNamedRows.{there_row}
use Rattle.update_plans.specs.Beside.{HasKept, Follows}
use Rattle.update_plans.specs.Rows.{lost_of, lost}
use Rattle.update_plans.proofs.Members.{In, has_in, in_has, in_flat, flat_in, at_in, in_filter, filter_in}
use Rattle.update_plans.proofs.Named.{IsOf, RowsOf, rows_of, in_row, of_row}
use Rattle.update_plans.proofs.BesideRows.{OfRow, in_beside, beside_in}

-- the row before that has what the version before assigns
pub record OldRow (old : Option Row) (e : ℕ) : Type 0 where
  pub row : Row
  pub there : old ≡ Some row
  pub has_it : has (executions row) e ≡ true

pub old_row : (before : Version) (old : Option Row) (row : Row) (e : ℕ) → HasKept before old row → IsOf row e → assigns before e ≡ true → OldRow old e
old_row before old row e kept is assigned = go old refl is
  where
    evaluated : (o : Option Row) → old ≡ o → option_map (λ (r : Row). r.evaluation) o ≡ Some e → OldRow old e
    evaluated None at is = absurd (cc)
    evaluated (Some r) at is = let same : r.evaluation ≡ e = cc in record { row = r; there = at; has_it = of_row r e (inl same) }

    printed : (o : Option Row) → old ≡ o → option_and_then (λ (r : Row). r.print) o ≡ Some e → OldRow old e
    printed None at is = absurd (cc)
    printed (Some r) at is = record { row = r; there = at; has_it = of_row r e (inr is) }

    go : (o : Option Row) → old ≡ o → IsOf row e → OldRow old e
    go o at (inl same) =
        evaluated o at (ap (option_map (λ (r : Row). r.evaluation)) (sym at)
        ∙ kept.evaluation (ap (assigns before) same ∙ assigned) ∙ ap (λ x. Some x) same)
    go o at (inr print) =
        printed o at (ap (option_and_then (λ (r : Row). r.print)) (sym at) ∙ kept.print e print assigned)

module _ (before now : Version) (marks : List Bool) (f : Follows before now marks) where
  -- what both assign stands in the row at its place now
  pub stays : (name : List ℕ) (i e : ℕ) (row : Row) → slice_get (rows_in before name) i ≡ Some row → has (executions row) e ≡ true
      → assigns now e ≡ true → has (told_row (slice_get (rows_in now name) i)) e ≡ true
  stays name i e row at is assigned =
      let r : RowOf now e = f.have_places e assigned in
      let old : OldRow (slice_get (rows_in before r.name) r.place) e =
      old_row before _ r.row e (f.keeps r.name r.place r.row r.stands) (in_row r.row e r.has_it) (there_row before name i e row at is) in
      let same = f.stood_once r.name name r.place i e old.row row old.there at old.has_it is in
      ap (λ n. has (told_row (slice_get (rows_in now n) i)) e) (sym same.0)
      ∙ ap (λ j. has (told_row (slice_get (rows_in now r.name) j)) e) (sym same.1)
      ∙ ap (λ o. has (told_row o) e) r.stands ∙ r.has_it

  abbrev lost_at : List ℕ × Node → List ℕ
  lost_at pair = lost (rows_in before pair.0) (rows_in now pair.0)

  -- where a lost execution stood
  record Lost (e : ℕ) : Type 0 where
    pub name : List ℕ
    pub place : ℕ
    pub row : Row
    pub at : slice_get (rows_in before name) place ≡ Some row
    pub has_it : has (executions row) e ≡ true
    pub gone : not (has (told_row (slice_get (rows_in now name) place)) e) ≡ true

  is_lost : (e : ℕ) → In e (flat_map lost_at before.nodes) → Lost e
  is_lost e is =
      let node = in_flat lost_at before.nodes e is in
      let r : OfRow lost_of (rows_in before node.0.0) (rows_in now node.0.0) e =
      in_beside lost_of (rows_in before node.0.0) (rows_in now node.0.0) e node.2 in
      let both = in_filter (λ x. not (has (told_row (slice_get (rows_in now node.0.0) r.place)) x)) (executions r.row) e r.is in
      record {
        name = node.0.0;
        place = r.place;
        row = r.row;
        at = r.at;
        has_it = in_has (executions r.row) e both.0;
        gone = both.1;
      }

  lost_is : (e : ℕ) → Lost e → In e (flat_map lost_at before.nodes)
  lost_is e x =
      let r : RowsOf before x.name = rows_of before x.name x.place x.row x.at in
      flat_in lost_at before.nodes r.node.pair e (at_in before.nodes r.place r.node.pair r.node.stands)
      (subst (λ n. In e (lost (rows_in before n) (rows_in now n))) (sym r.node.named)
      (beside_in lost_of (rows_in before x.name) (rows_in now x.name) x.place x.row e x.at
      (filter_in (λ y. not (has (told_row (slice_get (rows_in now x.name) x.place)) y)) (executions x.row) e
      (has_in (executions x.row) e x.has_it) x.gone)))

  not_both : (b : Bool) → b ≡ true → not b ≡ true → ⊥
  not_both true a b = absurd (false≢true b)
  not_both false a b = absurd (false≢true a)

  -- the lost executions are those that are assigned no more
  pub dropped_are : (all : List ℕ) → all ≡ flat_map lost_at before.nodes → (e : ℕ) → has all e ≡ (assigns before e && not (assigns now e))
  dropped_are all are e = go (assigns before e) refl (assigns now e) refl
    where
      lost_e : has all e ≡ true → Lost e
      lost_e is = is_lost e (subst (In e) are (has_in all e is))

      go : (a : Bool) → assigns before e ≡ a → (b : Bool) → assigns now e ≡ b → has all e ≡ (a && not b)
      go true was true is = false_from_ne_true (has all e) (λ there.
          let x = lost_e there in not_both _ (stays x.name x.place e x.row x.at x.has_it is) x.gone)
      go true was false is =
          let r : RowOf before e = f.had_places e was in
          let gone : has (told_row (slice_get (rows_in now r.name) r.place)) e ≡ false =
          false_from_ne_true _ (λ there. false≢true (sym is ∙ still r (slice_get (rows_in now r.name) r.place) refl there)) in
          in_has all e (subst (In e) (sym are) (lost_is e (record {
            name = r.name;
            place = r.place;
            row = r.row;
            at = r.stands;
            has_it = r.has_it;
            gone = not_from_false _ gone;
          })))
        where
          still : (r : RowOf before e) (o : Option Row) → slice_get (rows_in now r.name) r.place ≡ o → has (told_row o) e ≡ true → assigns now e ≡ true
          still r None at there = absurd (false≢true there)
          still r (Some row) at there = there_row now r.name r.place e row at there
      go false was b is = false_from_ne_true (has all e) (λ there.
          let x = lost_e there in false≢true (sym was ∙ there_row before x.name x.place e x.row x.at x.has_it))
