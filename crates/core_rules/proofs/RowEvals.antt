-- What an assigned evaluation takes up is assigned as well.
use Rattle.std.proofs.Common.{◌≡◌, ℕ, zero, suc, List, [], ◌∷◌, length, map, find, Option, Some, None, refl, sym, subst, arith}
use Rattle.std.proofs.lemmas.Option.{slice_get_within}
use Rattle.std.specs.Prelude.{slice_get, filter_map}
use Rattle.std.specs.Option.{option_map_or}
use Rattle.std.specs.List.{AllByRecursion, cons_option}
use Rattle.doc_nodes.specs.declared.node.Entry.{Entry}
use Rattle.doc_nodes.specs.declared.node.Node.{Node}
use Rattle.doc_nodes.specs.Imports.{place_of, is_bad}
use Rattle.exec_rules.specs.declared.key.Last.{Last}
use Rattle.exec_rules.specs.declared.key.Last.TheVariants.{Empty, Open, Made}
use Rattle.exec_rules.specs.declared.row.Row.{Row}
use Rattle.exec_rules.specs.declared.home.Head.{Head}
use Rattle.exec_rules.specs.declared.home.Input.TheVariants as input
use Rattle.exec_rules.specs.declared.version.Version.{Version}
use Rattle.exec_rules.specs.Keys.{by_row, last_of, key_by}
use Rattle.exec_rules.specs.Assigning.{entries_at}
use Rattle.exec_rules.proofs.KnownThere.{get_there}
use Rattle.core_rules.specs.FromScratch.{assigned_to, last_by, key_from, input_at}
use Rattle.core_rules.specs.Parts.{last_evaluation, lasts_of, sources_of}
use Rattle.core_rules.proofs.KnownPlaces.{place_found}
use Rattle.core_rules.proofs.AssignedRows.{EvalRow}

module _ (v : Version) where
  last_row : (es : List Entry) (rs : List Row) (s : ℕ) → last_of es rs ≡ Made s
      → (i : ℕ) × (row : Row) × (slice_get rs i ≡ Some row) × (s ≡ row.evaluation)
  last_row [] rs s is = absurd (cc)
  last_row (e ∷ es) rs s is = go (slice_get rs (length es)) refl is
    where
      go : (o : Option Row) → slice_get rs (length es) ≡ o → by_row o ≡ Made s
          → (i : ℕ) × (row : Row) × (slice_get rs i ≡ Some row) × (s ≡ row.evaluation)
      go None at is = absurd (cc)
      go (Some row) at is = (length es, row, at, cc)

  last_eval : (name : List ℕ) (o : Option ℕ) (s : ℕ) → place_of v.nodes name ≡ o
      → option_map_or (λ p. last_of (entries_at v.nodes p) (assigned_to v p).rows) o Empty ≡ Made s → EvalRow v s
  last_eval name None s e is = absurd (cc)
  last_eval name (Some q) s e is =
      let found = place_found v.nodes name q e in
      let row = last_row (entries_at v.nodes q) (assigned_to v q).rows s is in
      record { place = q; pair = found.pair; node = found.stands; index = row.0; row = row.1; at = row.2; is = row.3 }

  cons_evals : (last : Last) (rest : List ℕ) → ((s : ℕ) → last ≡ Made s → EvalRow v s) → AllByRecursion (EvalRow v) rest
      → AllByRecursion (EvalRow v) (cons_option (last_evaluation last) rest)
  cons_evals (Made s) rest one all = (one s refl, all)
  cons_evals Empty rest one all = all
  cons_evals Open rest one all = all

  lasts_evals : (names : List (List ℕ)) → AllByRecursion (EvalRow v) (filter_map last_evaluation (map (last_by v.nodes (assigned_to v)) names))
  lasts_evals [] = tt
  lasts_evals (name ∷ names) = cons_evals (last_by v.nodes (assigned_to v) name) _
      (λ s is. last_eval name (place_of v.nodes name) s refl is) (lasts_evals names)

  key_evals : (node : Node) → AllByRecursion (EvalRow v) (lasts_of (key_from v.nodes (assigned_to v) node))
  key_evals node = go (find (is_bad v.nodes) node.imports)
    where
      go : (o : Option (List ℕ)) → AllByRecursion (EvalRow v) (lasts_of (key_by o (map (last_by v.nodes (assigned_to v)) node.imports)))
      go None = lasts_evals node.imports
      go (Some name) = tt

  -- what an evaluation takes up is assigned
  pub sources_evals : (head : Head) (p i : ℕ) (pair : List ℕ × Node) (row : Row) → slice_get v.nodes p ≡ Some pair
      → slice_get (assigned_to v p).rows i ≡ Some row → head.key ≡ key_from v.nodes (assigned_to v) pair.1
      → AllByRecursion (EvalRow v) (sources_of (input_at head (assigned_to v p).rows i))
  sources_evals head p zero pair row node at key =
      subst (λ k. AllByRecursion (EvalRow v) (lasts_of k)) (sym key) (key_evals pair.1)
  sources_evals head p (suc i) pair row node at key =
      let lt = slice_get_within (assigned_to v p).rows (suc i) row at in
      let there = get_there (assigned_to v p).rows i (omega (arith, lt)) in
      subst (λ o. AllByRecursion (EvalRow v) (sources_of (option_map_or (λ (r : Row). input.Next r.evaluation) o (input.First head))))
      (sym there.1)
      (record { place = p; pair = pair; node = node; index = i; row = there.0; at = there.1; is = refl }, tt)
