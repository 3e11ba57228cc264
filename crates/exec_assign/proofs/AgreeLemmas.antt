-- Updates that differ in what is cancelled, but not at the executions of the version before.
use Rattle.std.proofs.Common.{◌≡◌, ℕ, ◌+◌, ◌-◌, cond, List, [], ◌∷◌, length, map, Option, Some, None, Bool, refl, sym, ap, ◌∙◌}
use Rattle.std.specs.Prelude.{slice_get}
use Rattle.std.specs.List.{range_with_len}
use Rattle.std.specs.Option.{option_map_or}
use Rattle.doc_nodes.specs.declared.node.Node.{Node}
use Rattle.doc_nodes.specs.Imports.{NodeList, order}
use Rattle.doc_nodes.specs.Wanted.{wanted_at}
use Rattle.exec_rules.specs.declared.key.Key.{Key}
use Rattle.exec_rules.specs.declared.row.Row.{Row}
use Rattle.exec_rules.specs.declared.row.Assigned.{Assigned}
use Rattle.exec_rules.specs.declared.version.Version.{Version}
use Rattle.exec_rules.specs.Keys.{same_key, assigned_at, key_of}
use Rattle.exec_rules.specs.Kept.{BlobList, kept_count}
use Rattle.exec_rules.specs.Rows.{evaluations, live_prints}
use Rattle.exec_rules.specs.Assigning.{Update, Work, entries_in, assigned_in, rows_in, times, kept_of, greater, given, head_at, extended_work, assign_one, assign_all, assignment}
use Rattle.exec_assign.specs.Agreeing.{AgreeAt}
use Rattle.exec_assign.specs.Untouched.{IsUntouched, AreUntouched}
use Rattle.exec_assign.proofs.StandLemmas.{shaped}
use Rattle.exec_assign.proofs.AgreeRows.{rows_agree, kept_agrees, prints_agree}

module _ (tip : Version) (nodes : NodeList) (blobs : BlobList) (one other : List ℕ) (agree : AgreeAt tip one other) where
  abbrev with_cancelled : List ℕ → Update
  with_cancelled c = record { tip = tip; nodes = nodes; blobs = blobs; cancelled = c }

  kept_same : (pair : List ℕ × Node) (key : Key) → kept_of (with_cancelled one) pair key ≡ kept_of (with_cancelled other) pair key
  kept_same pair key = go (assigned_in tip pair.0) refl
    where
      go : (o : Option Assigned) → assigned_in tip pair.0 ≡ o
          → option_map_or (λ old. cond (same_key key old.key) (kept_count (times (with_cancelled one)) pair.1.entries (entries_in tip pair.0) old.rows) 0) o 0
          ≡ option_map_or (λ old. cond (same_key key old.key) (kept_count (times (with_cancelled other)) pair.1.entries (entries_in tip pair.0) old.rows) 0) o 0
      go None had = refl
      go (Some old) had =
          let rows : rows_in tip pair.0 ≡ old.rows = ap (λ (o : Option Assigned). option_map_or (λ a. a.rows) o []) had in
          ap (λ n. cond (same_key key old.key) n 0) (kept_agrees tip.blobs blobs one other pair.1.entries (entries_in tip pair.0) old.rows
          (λ i row at. rows_agree tip one other agree pair.0 i row (ap (λ (rs : List Row). slice_get rs i) rows ∙ at)))

  given_same : (p : ℕ) (pair : List ℕ × Node) (key : Key) (next : ℕ) → given (with_cancelled one) p pair key next ≡ given (with_cancelled other) p pair key next
  given_same p pair key next =
      let rows = rows_in tip pair.0 in
      let k = kept_of (with_cancelled other) pair key in
      let n = greater k (wanted_at nodes p) in
      ap (λ j. shaped (with_cancelled one) pair (head_at (with_cancelled one) p pair key) j (evaluations rows j (greater j (wanted_at nodes p)) next)
      (live_prints one rows j) (next + (greater j (wanted_at nodes p) - j))) (kept_same pair key)
      ∙ ap (λ ps. shaped (with_cancelled one) pair (head_at (with_cancelled one) p pair key) k (evaluations rows k n next) ps (next + (n - k)))
      (prints_agree one other rows k (rows_agree tip one other agree pair.0))

  one_same : (work : Work) (p : ℕ) → assign_one (with_cancelled one) work p ≡ assign_one (with_cancelled other) work p
  one_same work p = go (slice_get nodes p)
    where
      go : (o : Option (List ℕ × Node))
          → option_map_or (λ pair. extended_work work p (given (with_cancelled one) p pair (key_of nodes work.done pair.1) work.next)) o work
          ≡ option_map_or (λ pair. extended_work work p (given (with_cancelled other) p pair (key_of nodes work.done pair.1) work.next)) o work
      go None = refl
      go (Some pair) = ap (λ g. extended_work work p g)
          (given_same p pair (key_of nodes work.done pair.1) work.next)

  all_same : (ps : List ℕ) (work : Work) → assign_all (with_cancelled one) ps work ≡ assign_all (with_cancelled other) ps work
  all_same [] work = refl
  all_same (p ∷ ps) work = ap (λ w. assign_all (with_cancelled one) ps w) (one_same work p) ∙ all_same ps (assign_one (with_cancelled other) work p)

  pub assignment_same : (next : ℕ) → assignment (with_cancelled one) next ≡ assignment (with_cancelled other) next
  assignment_same next =
      ap (λ (w : Work). record {
        assigned = map (assigned_at w.done) (range_with_len 0 (length nodes));
        homes = w.homes;
        next = w.next;
      }) (all_same (order nodes) (record { done = []; homes = []; next = next }))

  pub untouched_same : (marks : List Bool) → AreUntouched (with_cancelled one) marks → AreUntouched (with_cancelled other) marks
  untouched_same marks are = λ p pair mark at. node pair (are p pair mark at)
    where
      node : (pair : List ℕ × Node) → IsUntouched (with_cancelled one) pair → IsUntouched (with_cancelled other) pair
      node pair untouched = record {
        commands = untouched.commands;
        alive = λ i row at.
            let same = rows_agree tip one other agree pair.0 i row at in
            let was = untouched.alive i row at in
            record { evaluation = sym same.evaluation ∙ was.evaluation; print = sym same.print ∙ was.print };
      }
