-- Nodes that are marked, and of which nothing is cancelled, are untouched.
use Rattle.std.proofs.Common.{◌≡◌, ◌⊎◌, inl, inr, ℕ, zero, suc, ◌+◌, ◌<◌, ◌≤◌, Bool, true, false, cond, not, List, [], ◌∷◌, ◌++◌, length, get_or, Option, Some, None, refl, ap, sym, ◌∙◌, arith}
use Rattle.std.proofs.lemmas.Bool.{cases_lt, and_parts, not-true, and_from}
use Rattle.std.proofs.lemmas.List.{get_or_append_left, get_or_push}
use Rattle.std.proofs.lemmas.Option.{slice_get_within}
use Rattle.std.specs.Prelude.{◌&&◌, slice_get}
use Rattle.std.specs.List.{list_all}
use Rattle.doc_nodes.specs.Looks.{marked}
use Rattle.doc_nodes.specs.declared.node.Node.{Node}
use Rattle.doc_nodes.specs.Imports.{NodeList}
use Rattle.core_tables.specs.Rows.{Row as TableRow}
use Rattle.exec_rules.specs.declared.row.Row.{Row}
use Rattle.exec_rules.specs.declared.version.Version.{Version}
use Rattle.exec_rules.specs.Kept.{BlobList}
use Rattle.exec_rules.specs.Rows.{live_print}
use Rattle.exec_rules.specs.Assigning.{rows_in}
use Rattle.exec_assign.specs.Untouched.{IsAlive, AreUntouched}
use Rattle.core_rules.proofs.KnownNamedRows.{there_row}
use Rattle.update_plans.specs.Cancelled.{is_cancelled, cancelled_in, IsQuiet}
use Rattle.update_plans.specs.Alive.{is_alive, lives, HaveCommands}
use Rattle.update_plans.proofs.KnownCancelled.{has_cancelled}
use Rattle.update_plans.proofs.Named.{of_row}

all_at : {X : Type 0} (test : X → Bool) (xs : List X) (i : ℕ) (x : X) → list_all test xs ≡ true → slice_get xs i ≡ Some x → test x ≡ true
all_at test [] i x all at = absurd (cc)
all_at test (y ∷ xs) zero x all at = let same : y ≡ x = cc in ap test (sym same) ∙ (and_parts (test y) (list_all test xs) all).0
all_at test (y ∷ xs) (suc i) x all at = all_at test xs i x (and_parts (test y) (list_all test xs) all).1 at

all_so : {X : Type 0} (test : X → Bool) (xs : List X) → ((i : ℕ) (x : X) → slice_get xs i ≡ Some x → test x ≡ true) → list_all test xs ≡ true
all_so test [] each = refl
all_so test (x ∷ xs) each = and_from (test x) (list_all test xs) (each 0 x refl) (all_so test xs (λ i y at. each (suc i) y at))

module _ {R : Type 0} (rows : List (TableRow R)) where
  living : (row : Row) → is_alive rows row ≡ true → IsAlive (cancelled_in rows) row
  living row alive =
      let both = and_parts (not (is_cancelled rows row.evaluation)) (lives rows row.print) alive in
      record {
        evaluation = has_cancelled rows row.evaluation ∙ not-true (is_cancelled rows row.evaluation) both.0;
        print = printed row.print both.1;
      }
    where
      printed : (o : Option ℕ) → lives rows o ≡ true → live_print (cancelled_in rows) o ≡ o
      printed None is = refl
      printed (Some q) is = ap (λ b. cond b None (Some q)) (has_cancelled rows q ∙ not-true (is_cancelled rows q) is)

  -- what a list of marks tells of the nodes up to a place
  abbrev pub TellsTo : Version → NodeList → List Bool → ℕ → List Bool → Type 0
  TellsTo before nodes marks n all = (p : ℕ) (pair : List ℕ × Node) → p < n → slice_get nodes p ≡ Some pair
      → marked all p ≡ (marked marks p && list_all (is_alive rows) (rows_in before pair.0))

  -- one node more
  pub tells_more : (before : Version) (nodes : NodeList) (marks : List Bool) (n : ℕ) (b : Bool) (all more : List Bool) → length all ≡ n
      → more ≡ all ++ b ∷ []
      → ((pair : List ℕ × Node) → slice_get nodes n ≡ Some pair → b ≡ (marked marks n && list_all (is_alive rows) (rows_in before pair.0)))
      → TellsTo before nodes marks n all → TellsTo before nodes marks (n + 1) more
  tells_more before nodes marks n b all more long em here tells p pair lt at = go (cases_lt p n)
    where
      go : (p < n) ⊎ (n ≤ p) → marked more p ≡ (marked marks p && list_all (is_alive rows) (rows_in before pair.0))
      go (inl less) =
          ap (λ (xs : List Bool). get_or xs p false) em ∙ get_or_append_left all (b ∷ []) false p (omega (arith, less, long))
          ∙ tells p pair less at
      go (inr le) =
          let same : p ≡ length all = omega (arith, le, lt, long) in
          let place : n ≡ p = omega (arith, le, lt) in
          ap (λ (xs : List Bool). get_or xs p false) em ∙ get_or_push all b false p (sym same)
          ∙ here pair (ap (slice_get nodes) place ∙ at) ∙ ap (λ q. marked marks q && list_all (is_alive rows) (rows_in before pair.0)) place

  -- all nodes were told
  pub all_told : (before : Version) (nodes : NodeList) (marks : List Bool) (n : ℕ) (all : List Bool) → length nodes ≤ n → TellsTo before nodes marks n all
      → (p : ℕ) (pair : List ℕ × Node) → slice_get nodes p ≡ Some pair
      → marked all p ≡ (marked marks p && list_all (is_alive rows) (rows_in before pair.0))
  all_told before nodes marks n all le tells p pair at =
      let lt = slice_get_within nodes p pair at in tells p pair (omega (arith, lt, le)) at

  pub untouched_are : (before : Version) (nodes : NodeList) (blobs : BlobList) (marks all : List Bool) → HaveCommands before nodes marks
      → ((p : ℕ) (pair : List ℕ × Node) → slice_get nodes p ≡ Some pair
      → marked all p ≡ (marked marks p && list_all (is_alive rows) (rows_in before pair.0)))
      → AreUntouched (record { tip = before; nodes = nodes; blobs = blobs; cancelled = cancelled_in rows }) all
  untouched_are before nodes blobs marks all commands told p pair is at =
      let both = and_parts (marked marks p) (list_all (is_alive rows) (rows_in before pair.0)) (sym (told p pair at) ∙ is) in
      record {
        commands = commands p pair both.0 at;
        alive = λ i row on. living row (all_at (is_alive rows) (rows_in before pair.0) i row both.1 on);
      }

  -- where nothing that a version assigns is cancelled, its rows are alive
  pub quiet_alive : (v : Version) (name : List ℕ) → IsQuiet rows v → list_all (is_alive rows) (rows_in v name) ≡ true
  quiet_alive v name quiet = all_so (is_alive rows) (rows_in v name) alive
    where
      never : (e : ℕ) → is_cancelled rows e ≡ false → not (is_cancelled rows e) ≡ true
      never e is = ap not is

      alive : (i : ℕ) (row : Row) → slice_get (rows_in v name) i ≡ Some row → is_alive rows row ≡ true
      alive i row at = and_from (not (is_cancelled rows row.evaluation)) (lives rows row.print)
          (never row.evaluation (quiet row.evaluation (there_row v name i row.evaluation row at (of_row row row.evaluation (inl refl)))))
          (printed row.print refl)
        where
          printed : (o : Option ℕ) → row.print ≡ o → lives rows o ≡ true
          printed None is = refl
          printed (Some q) is = never q (quiet q (there_row v name i q row at (of_row row q (inr is))))

  -- so a node that is marked is untouched
  pub quiet_marked : (v : Version) (name : List ℕ) (b : Bool) → b ≡ true → IsQuiet rows v
      → true ≡ (b && list_all (is_alive rows) (rows_in v name))
  quiet_marked v name b is quiet = sym (ap (λ x. x && list_all (is_alive rows) (rows_in v name)) is ∙ quiet_alive v name quiet)
