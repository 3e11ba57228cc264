-- What a node rests on was made before.
use Rattle.std.proofs.Common.{◌≡◌, ℕ, zero, suc, ◌≤◌, List, [], ◌∷◌, length, map, find, Option, Some, None, refl}
use Rattle.std.specs.Prelude.{slice_get, ⊤}
use Rattle.std.specs.List.{AllByRecursion, filter_map, cons_option}
use Rattle.std.specs.Option.{option_map_or}
use Rattle.doc_nodes.specs.declared.node.Entry.{Entry}
use Rattle.doc_nodes.specs.declared.node.Node.{Node}
use Rattle.doc_nodes.specs.Imports.{NodeList, place_of, is_bad}
use Rattle.exec_rules.specs.declared.key.Last.{Last}
use Rattle.exec_rules.specs.declared.key.Last.TheVariants.{Empty, Open, Made}
use Rattle.exec_rules.specs.declared.row.Row.{Row}
use Rattle.exec_rules.specs.declared.row.Assigned.{Assigned}
use Rattle.exec_rules.specs.declared.home.Home.{Home}
use Rattle.exec_rules.specs.Kept.{BlobList}
use Rattle.exec_rules.specs.Keys.{by_row, last_of, key_by}
use Rattle.exec_rules.specs.Assigning.{entries_at}
use Rattle.core_rules.specs.Parts.{last_evaluation, lasts_of}
use Rattle.core_rules.specs.FromScratch.{last_by, key_from}
use Rattle.core_rules.proofs.Tables.{AtMost}
use Rattle.core_rules.proofs.HomedRows.{evals}
use Rattle.core_rules.proofs.KnownPlaces.{place_found}
use Rattle.core_rules.proofs.ImportAliases.{ImportStands}
use Rattle.core_rules.proofs.TipNode.{evals_within}

-- a last is at most m
abbrev pub LastAtMost : ℕ → Last → Type 0
LastAtMost m (Made e) = e ≤ m
LastAtMost m last = ⊤

row_at_most : (m i : ℕ) (rs : List Row) → AtMost m (evals rs) → LastAtMost m (by_row (slice_get rs i))
row_at_most m i [] all = tt
row_at_most m zero (r ∷ rs) all = all.0
row_at_most m (suc i) (r ∷ rs) all = row_at_most m i rs all.1

last_at_most : (m : ℕ) (es : List Entry) (rs : List Row) → AtMost m (evals rs) → LastAtMost m (last_of es rs)
last_at_most m [] rs all = tt
last_at_most m (e ∷ es) rs all = row_at_most m (length es) rs all

module _ (homes : List Home) (nodes : NodeList) (blobs : BlobList) (assigned : ℕ → Assigned) (m : ℕ)
    (count : length homes ≤ m) where
  one_within : (name : List ℕ) (o : Option ℕ) → place_of nodes name ≡ o → ImportStands homes nodes blobs assigned name
      → LastAtMost m (option_map_or (λ p. last_of (entries_at nodes p) (assigned p).rows) o Empty)
  one_within name None e stand = tt
  one_within name (Some q) e stand =
      let found = place_found nodes name q e in
      let here = stand q found.pair e found.stands in
      last_at_most m (entries_at nodes q) (assigned q).rows
      (evals_within homes found.pair.1 blobs m found.pair.1.entries (evals (assigned q).rows) _ count here.1.homed.evaluate)

  cons_within : (last : Last) (xs : List ℕ) → LastAtMost m last → AtMost m xs
      → AtMost m (cons_option (last_evaluation last) xs)
  cons_within (Made e) xs le all = (le, all)
  cons_within Empty xs le all = all
  cons_within Open xs le all = all

  lasts_within : (names : List (List ℕ)) → AllByRecursion (ImportStands homes nodes blobs assigned) names
      → AtMost m (filter_map last_evaluation (map (last_by nodes assigned) names))
  lasts_within [] all = tt
  lasts_within (name ∷ names) all = cons_within (last_by nodes assigned name) _
      (one_within name (place_of nodes name) refl all.0) (lasts_within names all.1)

  -- a node's key names evaluations that were made
  pub key_within : (node : Node) → (find (is_bad nodes) node.imports ≡ None → AllByRecursion (ImportStands homes nodes blobs assigned) node.imports)
      → AtMost m (lasts_of (key_from nodes assigned node))
  key_within node stand = go (find (is_bad nodes) node.imports) stand
    where
      go : (o : Option (List ℕ)) → (o ≡ None → AllByRecursion (ImportStands homes nodes blobs assigned) node.imports)
          → AtMost m (lasts_of (key_by o (map (last_by nodes assigned) node.imports)))
      go None stand = lasts_within node.imports (stand refl)
      go (Some name) stand = tt
