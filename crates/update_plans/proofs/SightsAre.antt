-- Evaluations of which nothing is told are seen as before.
use Rattle.std.proofs.Common.{◌≡◌, inl, ℕ, Bool, true, false, cond, List, [], ◌∷◌, map, Option, Some, None, refl, ap, sym, subst, ◌∙◌}
use Rattle.std.proofs.lemmas.Bool.{eqb-true, false≢true}
use Rattle.std.specs.Prelude.{◌==◌, slice_get, flat_map}
use Rattle.std.specs.Option.{option_map_or}
use Rattle.std.specs.Cmp.Derive.{one_truth}
use Rattle.text_words.specs.Members.{has}
use Rattle.shared_map.specs.Pairs.{IsSorted}
use Rattle.doc_nodes.specs.declared.node.Entry.{Entry}
use Rattle.doc_nodes.specs.Names.{in_order}
use Rattle.exec_rules.specs.declared.row.Row.{Row}
use Rattle.exec_rules.specs.declared.version.Version.{Version}
use Rattle.exec_rules.specs.Assigning.{rows_in}
use Rattle.core_rules.specs.Assigned.{is_visible}
use Rattle.update_plans.specs.declared.seeing.Sight.{Sight}
use Rattle.update_plans.specs.Beside.{is_marked, HasStayed, Follows}
use Rattle.update_plans.specs.Sights.{seen_of, seen_in, unseen, hidden_of, hidden}
use Rattle.update_plans.proofs.Members.{In, at_in, in_has, in_front, in_back, flat_in, map_in}
use Rattle.update_plans.proofs.Named.{RowsOf, rows_of}
use Rattle.update_plans.proofs.Visible.{SeenAt, seen_at, at_seen}
use Rattle.update_plans.proofs.BesideRows.{beside_in}
use Rattle.update_plans.proofs.SightsSee.{seen_there, hidden_there, all_sights}

module _ (before now : Version) (marks : List Bool) (f : Follows before now marks)
    (sorted_before : IsSorted in_order before.nodes) (sorted_now : IsSorted in_order now.nodes) where
  abbrev Told : ℕ → Type 0
  Told e = has (map (λ (s : Sight). s.exec) (all_sights before now marks)) e ≡ true

  told_in : (s : Sight) (e : ℕ) → s.exec ≡ e → In s (all_sights before now marks) → Told e
  told_in s e is there =
      in_has (map (λ (s : Sight). s.exec) (all_sights before now marks)) e
      (subst (λ n. In n (map (λ (s : Sight). s.exec) (all_sights before now marks))) is (map_in (λ (s : Sight). s.exec) (all_sights before now marks) s there))

  -- an evaluation of the new version is told, where its node is not marked
  told_seen : (name : List ℕ) (i e : ℕ) (row : Row) → slice_get (rows_in now name) i ≡ Some row → row.evaluation ≡ e
      → is_marked marks now.nodes name ≡ false → Told e
  told_seen name i e row at is unmarked =
      let r : RowsOf now name = rows_of now name i row at in
      let there : In (seen_of row) (seen_in marks now name) =
      subst (λ b. In (seen_of row) (cond b [] (map seen_of (rows_in now name)))) (sym unmarked)
      (map_in seen_of (rows_in now name) row (at_in (rows_in now name) i row at)) in
      told_in (seen_of row) e is
      (in_front (flat_map (seen_there marks now) now.nodes) (flat_map (hidden_there before now) before.nodes) (seen_of row)
      (flat_in (seen_there marks now) now.nodes r.node.pair (seen_of row) (at_in now.nodes r.place r.node.pair r.node.stands)
      (subst (λ n. In (seen_of row) (seen_in marks now n)) (sym r.node.named) there)))

  told_hidden : (name : List ℕ) (i e : ℕ) (row : Row) → slice_get (rows_in before name) i ≡ Some row → row.evaluation ≡ e
      → option_map_or (λ (r : Row). r.evaluation == row.evaluation) (slice_get (rows_in now name) i) false ≡ false → Told e
  told_hidden name i e row at is gone =
      let r : RowsOf before name = rows_of before name i row at in
      let here : In (unseen row.evaluation) (hidden_of row (slice_get (rows_in now name) i)) =
      subst (λ b. In (unseen row.evaluation) (cond b [] (unseen row.evaluation ∷ []))) (sym gone) (inl refl) in
      told_in (unseen row.evaluation) e is
      (in_back (flat_map (seen_there marks now) now.nodes) (flat_map (hidden_there before now) before.nodes) (unseen row.evaluation)
      (flat_in (hidden_there before now) before.nodes r.node.pair (unseen row.evaluation) (at_in before.nodes r.place r.node.pair r.node.stands)
      (subst (λ n. In (unseen row.evaluation) (hidden (rows_in before n) (rows_in now n))) (sym r.node.named)
      (beside_in hidden_of (rows_in before name) (rows_in now name) i row (unseen row.evaluation) at here))))

  -- what is not told is seen as before
  pub others_seen : (e : ℕ) → has (map (λ (s : Sight). s.exec) (all_sights before now marks)) e ≡ false → is_visible now e ≡ is_visible before e
  others_seen e untold = one_truth (is_visible now e) (is_visible before e) there back
    where
      never : {A : Type 0} → Told e → A
      never told = absurd (false≢true (sym untold ∙ told))

      there : is_visible now e ≡ true → is_visible before e ≡ true
      there is = go (seen_at now e sorted_now is) (is_marked marks now.nodes (seen_at now e sorted_now is).name) refl
        where
          go : (s : SeenAt now e) (b : Bool) → is_marked marks now.nodes s.name ≡ b → is_visible before e ≡ true
          go s false un = never (told_seen s.name s.place e s.row s.row_at s.is un)
          go s true marked =
              let st : HasStayed before now s.name = f.stayed s.name marked in
              at_seen before e (record {
                name = s.name;
                place = s.place;
                entry = s.entry;
                row = s.row;
                entry_at = ap (λ (es : List Entry). slice_get es s.place) (sym st.entries) ∙ s.entry_at;
                row_at = ap (λ (rs : List Row). slice_get rs s.place) (sym st.rows) ∙ s.row_at;
                is = s.is;
                visible = s.visible;
              })

      back : is_visible before e ≡ true → is_visible now e ≡ true
      back is = go (seen_at before e sorted_before is)
        where
          still : (s : SeenAt before e) (o : Option Row) → slice_get (rows_in now s.name) s.place ≡ o
              → option_map_or (λ (r : Row). r.evaluation == s.row.evaluation) o false ≡ true → is_marked marks now.nodes s.name ≡ false → Told e
          still s None on same un = absurd (false≢true same)
          still s (Some row) on same un =
              told_seen s.name s.place e row on (eqb-true row.evaluation s.row.evaluation same ∙ s.is) un

          unmarked : (s : SeenAt before e) (b : Bool)
              → option_map_or (λ (r : Row). r.evaluation == s.row.evaluation) (slice_get (rows_in now s.name) s.place) false ≡ b
              → is_marked marks now.nodes s.name ≡ false → is_visible now e ≡ true
          unmarked s true same un = never (still s (slice_get (rows_in now s.name) s.place) refl same un)
          unmarked s false gone un = never (told_hidden s.name s.place e s.row s.row_at s.is gone)

          by : (s : SeenAt before e) (b : Bool) → is_marked marks now.nodes s.name ≡ b → is_visible now e ≡ true
          by s false un = unmarked s (option_map_or (λ (r : Row). r.evaluation == s.row.evaluation) (slice_get (rows_in now s.name) s.place) false) refl un
          by s true marked =
              let st : HasStayed before now s.name = f.stayed s.name marked in
              at_seen now e (record {
                name = s.name;
                place = s.place;
                entry = s.entry;
                row = s.row;
                entry_at = ap (λ (es : List Entry). slice_get es s.place) st.entries ∙ s.entry_at;
                row_at = ap (λ (rs : List Row). slice_get rs s.place) st.rows ∙ s.row_at;
                is = s.is;
                visible = s.visible;
              })

          go : SeenAt before e → is_visible now e ≡ true
          go s = by s (is_marked marks now.nodes s.name) refl
