-- One node more, from nothing: its executions work on what its commands are run in.
use Rattle.std.proofs.Common.{◌≡◌, ℕ, true, false, List, [], ◌∷◌, length, map, find, Option, Some, None, refl, ap, sym, subst, ◌∙◌}
use Rattle.std.proofs.lemmas.Bool.{or_parts, false≢true, and_parts}
use Rattle.std.specs.Prelude.{◌==◌, slice_get, zip, filter_map}
use Rattle.std.specs.Option.{option_map, option_map_or, option_and_then}
use Rattle.std.specs.List.{list_any, list_all, cons_option}
use Rattle.text_words.specs.Members.{has}
use Rattle.doc_nodes.specs.Rounds.{is_known}
use Rattle.doc_nodes.specs.declared.node.Node.{Node}
use Rattle.doc_nodes.specs.Imports.{NodeList, place_of, is_bad}
use Rattle.doc_nodes.specs.Aliases.{aliases_at}
use Rattle.exec_rules.specs.declared.key.Last.{Last}
use Rattle.exec_rules.specs.declared.key.Last.TheVariants.{Empty, Open, Made}
use Rattle.exec_rules.specs.declared.row.Row.{Row}
use Rattle.exec_rules.specs.declared.row.Assigned.{Assigned}
use Rattle.exec_rules.specs.declared.home.Home.{Home}
use Rattle.exec_rules.specs.Kept.{BlobList}
use Rattle.exec_rules.specs.Keys.{by_row, last_of, key_by}
use Rattle.exec_rules.specs.Assigning.{entries_at}
use Rattle.language.specs.declared.made.Imports.TheVariants.{Ordered}
use Rattle.language.specs.Lang.{Lang}
use Rattle.core_rules.specs.Settings.{bare_start, handed_on, imported_state, imports_by}
use Rattle.core_rules.specs.FromScratch.{last_by, is_open_last, has_open}
use Rattle.core_rules.specs.Scratch.{run_from, state_after, Run, Runs, final, final_at, import_run, imports_run, begins_at}
use Rattle.core_rules.proofs.Tables.{AreOlder}
use Rattle.core_rules.proofs.HomedRows.{evals}
use Rattle.core_rules.proofs.Facts.{NodeFacts}
use Rattle.core_rules.proofs.KnownPlaces.{place_found}
use Rattle.core_rules.proofs.ImportAliases.{IsBare, bare_aliases}
use Rattle.core_rules.proofs.AliasesByKey.{entries_found}
use Rattle.core_rules.proofs.SettingsBy.{behind}
use Rattle.core_rules.proofs.RunAgree.{Agree, last_behind}
use Rattle.core_rules.proofs.KnownKeys.{AreInside}

-- a node that is run
pub record IsRun {S : Type 0} (l : Lang S) (homes : List Home) (older : AreOlder homes) (blobs : BlobList)
    (assigned : ℕ → Assigned) (runs : Runs S) (p : ℕ) (pair : List ℕ × Node) : Type 0 where
  pub run : Run S
  pub found : find (λ one. one.0 == p) runs ≡ Some (p, run)
  pub commands : run.commands ≡ run_from l pair.1 blobs pair.1.entries run.begins
  pub agree : Agree l homes older pair.1 blobs (evals (assigned p).rows) run.commands
  pub bare : pair.1.entries ≡ [] → run.begins ≡ bare_start l pair.0

module _ {S : Type 0} (l : Lang S) (homes : List Home) (older : AreOlder homes) (nodes : NodeList) (blobs : BlobList)
    (assigned : ℕ → Assigned) (runs : Runs S) where
  run_empty : (q : ℕ) (pair : List ℕ × Node) (run : Run S) → run.commands ≡ run_from l pair.1 blobs pair.1.entries run.begins
      → pair.1.entries ≡ [] → final l run ≡ run.begins
  run_empty q pair run commands none =
      ap (state_after l run.begins) (commands ∙ ap (λ es. run_from l pair.1 blobs es run.begins) none)

  no_entries : (q : ℕ) (pair : List ℕ × Node) → last_of pair.1.entries (assigned q).rows ≡ Empty → pair.1.entries ≡ []
  no_entries q pair e = go pair.1.entries e
    where
      row_by : (o : Option Row) → by_row o ≡ Empty → ⊥
      row_by None e = absurd (cc)
      row_by (Some r) e = absurd (cc)

      go : (es : _) → last_of es (assigned q).rows ≡ Empty → es ≡ []
      go [] e = refl
      go (x ∷ es) e = absurd (row_by (slice_get (assigned q).rows (length es)) e)

  -- what an import hands on is the state behind it
  final_is : (name : List ℕ) (q : ℕ) (pair : List ℕ × Node) (last : Last) → IsRun l homes older blobs assigned runs q pair
      → pair.0 ≡ name → last_of pair.1.entries (assigned q).rows ≡ last → is_open_last last ≡ false
      → final_at l runs q ≡ handed_on l (behind l homes) name last
  final_is name q pair Open is named last shut = absurd (false≢true (sym shut))
  final_is name q pair Empty is named last shut =
      let none = no_entries q pair last in
      ap (option_map (λ (one : ℕ × Run S). final l one.1)) is.found
      ∙ ap (λ s. Some s) (run_empty q pair is.run is.commands none ∙ is.bare none ∙ ap (bare_start l) named)
  final_is name q pair (Made e) is named last shut =
      let agree : Agree l homes older pair.1 blobs (evals (assigned q).rows) (run_from l pair.1 blobs pair.1.entries is.run.begins) =
      subst (Agree l homes older pair.1 blobs (evals (assigned q).rows)) is.commands is.agree in
      ap (option_map (λ (one : ℕ × Run S). final l one.1)) is.found
      ∙ ap (λ ss. Some (state_after l is.run.begins ss)) is.commands
      ∙ sym (last_behind l homes older pair.1 blobs pair.1.entries (assigned q).rows is.run.begins e agree last)

  module _ (front : List ℕ)
      (each : (q : ℕ) (pair : List ℕ × Node) → has front q ≡ true → slice_get nodes q ≡ Some pair
      → IsRun l homes older blobs assigned runs q pair) where
    one_import : (name : List ℕ) (o : Option ℕ) → place_of nodes name ≡ o → is_known front o ≡ true
        → is_open_last (option_map_or (λ p. last_of (entries_at nodes p) (assigned p).rows) o Empty) ≡ false
        → option_and_then (final_at l runs) o
        ≡ handed_on l (behind l homes) name (option_map_or (λ p. last_of (entries_at nodes p) (assigned p).rows) o Empty)
    one_import name None e known shut = absurd (cc)
    one_import name (Some q) e known shut =
        let found = place_found nodes name q e in
        final_is name q found.pair _ (each q found.pair known found.stands) found.named
        (ap (λ es. last_of es (assigned q).rows) (sym (entries_found nodes q found.pair found.stands))) shut

    all_imports : (names : List (List ℕ)) → AreInside nodes front names
        → list_any is_open_last (map (last_by nodes assigned) names) ≡ false
        → filter_map (import_run l nodes runs) names
        ≡ filter_map (imported_state l (behind l homes))
        (zip names (map (last_by nodes assigned) names))
    all_imports [] known shut = refl
    all_imports (name ∷ names) known shut =
        let parts = and_parts (is_known front (place_of nodes name)) (list_all (λ x. is_known front (place_of nodes x)) names) known in
        let shuts = or_parts (is_open_last (last_by nodes assigned name)) (list_any is_open_last (map (last_by nodes assigned) names)) shut in
        ap (λ o. cons_option (option_map (λ state. record { name = name; state = state }) o) (filter_map (import_run l nodes runs) names))
        (one_import name (place_of nodes name) refl parts.0 shuts.0)
        ∙ ap (cons_option (imported_state l (behind l homes) (name, last_by nodes assigned name))) (all_imports names parts.1 shuts.1)

    -- a node begins with what its imports' executions leave
    pub imports_are : (names : List (List ℕ)) (o : Option (List ℕ)) → (o ≡ None → AreInside nodes front names)
        → has_open (key_by o (map (last_by nodes assigned) names)) ≡ false
        → imports_run l nodes runs names o
        ≡ imports_by l (behind l homes) names (key_by o (map (last_by nodes assigned) names))
    imports_are names None inside shut = ap Ordered (all_imports names (inside refl) shut)
    imports_are names (Some name) inside shut = refl

  -- a node without commands begins with nothing
  pub bare_begins : (facts : NodeFacts nodes) (p : ℕ) (pair : List ℕ × Node) → slice_get nodes p ≡ Some pair → IsBare pair
      → pair.1.entries ≡ [] → begins_at l nodes runs p pair ≡ bare_start l pair.0
  bare_begins facts p pair at bare none =
      ap (λ xs. l.start pair.0 (imports_run l nodes runs xs (find (is_bad nodes) xs)) (aliases_at nodes p)) (bare none).0
      ∙ ap (l.start pair.0 (Ordered [])) (bare_aliases nodes facts p pair at bare none)
