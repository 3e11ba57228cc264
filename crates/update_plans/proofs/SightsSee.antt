-- What is told of evaluations is so.
use Rattle.std.proofs.Common.{◌≡◌, ◌⊎◌, inl, inr, ℕ, Bool, true, false, cond, List, [], ◌∷◌, ◌++◌, map, Option, Some, None, refl, ap, sym, subst, ◌∙◌}
use Rattle.std.proofs.lemmas.Bool.{eq-eqb, false≢true, false_from_ne_true}
use Rattle.std.specs.Prelude.{◌==◌, slice_get, flat_map, is_some}
use Rattle.std.specs.List.{AllByRecursion}
use Rattle.std.specs.Option.{option_map, option_map_or}
use Rattle.std.specs.Cmp.Derive.{one_truth}
use Rattle.text_words.specs.Members.{has}
use Rattle.text_words.proofs.KnownOptions.{one_of}
use Rattle.shared_map.specs.Pairs.{IsSorted}
use Rattle.doc_nodes.specs.declared.node.Entry.{Entry}
use Rattle.doc_nodes.specs.declared.node.Node.{Node}
use Rattle.doc_nodes.specs.Names.{in_order}
use Rattle.exec_rules.specs.declared.row.Row.{Row}
use Rattle.exec_rules.specs.declared.version.Version.{Version}
use Rattle.exec_rules.specs.Assigning.{entries_in, rows_in}
use Rattle.exec_rules.specs.Listed.{executions}
use Rattle.core_rules.specs.Assigned.{assigns, is_visible}
use Rattle.core_rules.proofs.KnownNamedRows.{there_row}
use Rattle.update_plans.specs.declared.seeing.Sight.{Sight}
use Rattle.update_plans.specs.Beside.{is_marked, Follows}
use Rattle.update_plans.specs.Sights.{seen_of, seen_in, unseen, hidden_of, hidden}
use Rattle.update_plans.proofs.Members.{In, in_at, in_either, in_flat, in_map, each_in}
use Rattle.update_plans.proofs.Named.{of_row}
use Rattle.update_plans.proofs.Visible.{SeenAt, seen_at, at_seen}
use Rattle.update_plans.proofs.BesideRows.{OfRow, in_beside}

evaluates : (row : Row) (e : ℕ) → row.evaluation ≡ e → has (executions row) e ≡ true
evaluates row e is = of_row row e (inl is)

-- what is told of the nodes of a version, and of those of the version before
abbrev pub seen_there : List Bool → Version → List ℕ × Node → List Sight
seen_there marks now pair = seen_in marks now pair.0

abbrev pub hidden_there : Version → Version → List ℕ × Node → List Sight
hidden_there before now pair = hidden (rows_in before pair.0) (rows_in now pair.0)

abbrev pub all_sights : Version → Version → List Bool → List Sight
all_sights before now marks = flat_map (seen_there marks now) now.nodes ++ flat_map (hidden_there before now) before.nodes

module _ (before now : Version) (marks : List Bool) (f : Follows before now marks)
    (sorted_before : IsSorted in_order before.nodes) (sorted_now : IsSorted in_order now.nodes) where
  abbrev Sees : Sight → Type 0
  Sees s = is_visible now s.exec ≡ s.visible

  -- the command beside a row
  beside_row : (name : List ℕ) (i : ℕ) (row : Row) → slice_get (rows_in now name) i ≡ Some row
      → (entry : Entry) × (slice_get (entries_in now name) i ≡ Some entry) × (entry.visible ≡ is_some row.print)
  beside_row name i row at = go (slice_get (entries_in now name) i) refl (f.fits name i row at)
    where
      go : (o : Option Entry) → slice_get (entries_in now name) i ≡ o → option_map (λ (e : Entry). e.visible) o ≡ Some (is_some row.print)
          → (entry : Entry) × (slice_get (entries_in now name) i ≡ Some entry) × (entry.visible ≡ is_some row.print)
      go None on is = absurd (cc)
      go (Some entry) on is = let same : entry.visible ≡ is_some row.print = cc in (entry, on, same)

  -- an evaluation is visible as its own row tells
  row_sees : (name : List ℕ) (i : ℕ) (row : Row) → slice_get (rows_in now name) i ≡ Some row → is_visible now row.evaluation ≡ is_some row.print
  row_sees name i row at = one_truth (is_visible now row.evaluation) (is_some row.print) there back
    where
      here : (entry : Entry) × (slice_get (entries_in now name) i ≡ Some entry) × (entry.visible ≡ is_some row.print)
      here = beside_row name i row at

      back : is_some row.print ≡ true → is_visible now row.evaluation ≡ true
      back is = at_seen now row.evaluation (record {
        name = name;
        place = i;
        entry = here.0;
        row = row;
        entry_at = here.1;
        row_at = at;
        is = refl;
        visible = here.2 ∙ is;
      })

      there : is_visible now row.evaluation ≡ true → is_some row.print ≡ true
      there is =
          let s : SeenAt now row.evaluation = seen_at now row.evaluation sorted_now is in
          let same = f.stand_once s.name name s.place i row.evaluation s.row row s.row_at at
          (evaluates s.row row.evaluation s.is) (evaluates row row.evaluation refl) in
          let entry : slice_get (entries_in now name) i ≡ Some s.entry =
          ap (λ n. slice_get (entries_in now n) i) (sym same.0) ∙ ap (slice_get (entries_in now s.name)) (sym same.1) ∙ s.entry_at in
          sym here.2 ∙ ap (λ (e : Entry). e.visible) (one_of (slice_get (entries_in now name) i) here.0 s.entry here.1 entry) ∙ s.visible

  seen_so : (s : Sight) → In s (flat_map (seen_there marks now) now.nodes) → Sees s
  seen_so s is = go (is_marked marks now.nodes node.0.0) node.2
    where
      node : (x : List ℕ × Node) × In x now.nodes × In s (seen_there marks now x)
      node = in_flat (seen_there marks now) now.nodes s is

      go : (b : Bool) → In s (cond b [] (map seen_of (rows_in now node.0.0))) → Sees s
      go true there = absurd there
      go false there =
          let m = in_map seen_of (rows_in now node.0.0) s there in
          let at = in_at (rows_in now node.0.0) m.0 m.1 in
          subst Sees m.2 (row_sees node.0.0 at.0 m.0 at.1)

  -- what a row before had, and the row at its place has not, is visible nowhere
  gone_hidden : (name : List ℕ) (i : ℕ) (row : Row) → slice_get (rows_in before name) i ≡ Some row
      → option_map_or (λ (r : Row). r.evaluation == row.evaluation) (slice_get (rows_in now name) i) false ≡ false → is_visible now row.evaluation ≡ false
  gone_hidden name i row at gone = false_from_ne_true (is_visible now row.evaluation) (λ is.
      let s : SeenAt now row.evaluation = seen_at now row.evaluation sorted_now is in
      let assigned = there_row before name i row.evaluation row at (evaluates row row.evaluation refl) in
      let kept : option_map (λ (r : Row). r.evaluation) (slice_get (rows_in before s.name) s.place) ≡ Some s.row.evaluation =
      (f.keeps s.name s.place s.row s.row_at).evaluation (ap (assigns before) s.is ∙ assigned) in
      go s (slice_get (rows_in before s.name) s.place) refl kept)
    where
      go : (s : SeenAt now row.evaluation) (o : Option Row) → slice_get (rows_in before s.name) s.place ≡ o
          → option_map (λ (r : Row). r.evaluation) o ≡ Some s.row.evaluation → ⊥
      go s None on is = absurd (cc)
      go s (Some old) on is =
          let evaluation : old.evaluation ≡ s.row.evaluation = cc in
          let same = f.stood_once s.name name s.place i row.evaluation old row on at
          (evaluates old row.evaluation (evaluation ∙ s.is)) (evaluates row row.evaluation refl) in
          let here : slice_get (rows_in now name) i ≡ Some s.row =
          ap (λ n. slice_get (rows_in now n) i) (sym same.0) ∙ ap (slice_get (rows_in now s.name)) (sym same.1) ∙ s.row_at in
          false≢true (sym gone ∙ ap (λ o. option_map_or (λ (r : Row). r.evaluation == row.evaluation) o false) here
          ∙ eq-eqb s.row.evaluation row.evaluation s.is)

  hidden_so : (s : Sight) → In s (flat_map (hidden_there before now) before.nodes) → Sees s
  hidden_so s is =
      let node = in_flat (hidden_there before now) before.nodes s is in
      let r : OfRow hidden_of (rows_in before node.0.0) (rows_in now node.0.0) s =
      in_beside hidden_of (rows_in before node.0.0) (rows_in now node.0.0) s node.2 in
      go node.0.0 r (option_map_or (λ (x : Row). x.evaluation == r.row.evaluation) (slice_get (rows_in now node.0.0) r.place) false) refl r.is
    where
      go : (name : List ℕ) (r : OfRow hidden_of (rows_in before name) (rows_in now name) s) (b : Bool)
          → option_map_or (λ (x : Row). x.evaluation == r.row.evaluation) (slice_get (rows_in now name) r.place) false ≡ b
          → In s (cond b [] (unseen r.row.evaluation ∷ [])) → Sees s
      go name r true gone there = absurd there
      go name r false gone (inl same) = subst Sees same (gone_hidden name r.place r.row r.at gone)
      go name r false gone (inr none) = absurd none

  pub sights_see : AllByRecursion Sees (all_sights before now marks)
  sights_see = each_in Sees (all_sights before now marks) (λ s is. go s (in_either (flat_map (seen_there marks now) now.nodes) (flat_map (hidden_there before now) before.nodes) s is))
    where
      go : (s : Sight) → In s (flat_map (seen_there marks now) now.nodes) ⊎ In s (flat_map (hidden_there before now) before.nodes) → Sees s
      go s (inl seen) = seen_so s seen
      go s (inr gone) = hidden_so s gone
