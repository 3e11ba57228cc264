-- What a node inherits is told by its key.
use Rattle.std.proofs.Common.{◌≡◌, ℕ, Bool, true, false, cond, List, [], ◌∷◌, ◌++◌, map, find, Option, Some, None, refl, ap, sym, ◌∙◌}
use Rattle.std.proofs.lemmas.Bool.{or_parts}
use Rattle.std.proofs.lemmas.Option.{slice_get_within}
use Rattle.std.specs.Prelude.{slice_get}
use Rattle.std.specs.List.{list_any, flat_map, AllByRecursion}
use Rattle.std.specs.Option.{option_map_or}
use Rattle.doc_nodes.specs.declared.node.Node.{Node}
use Rattle.doc_nodes.specs.Imports.{NodeList, place_of, aims_of, is_bad, is_ordered}
use Rattle.doc_nodes.specs.Aliases.{no_aliases, folded, own_pairs, own_at, aliases_at}
use Rattle.doc_nodes.specs.HandedDown.{pairs_of, handed_down}
use Rattle.exec_rules.specs.declared.key.Last.TheVariants.{Empty}
use Rattle.exec_rules.specs.declared.key.Key.{Key}
use Rattle.exec_rules.specs.declared.row.Assigned.{Assigned}
use Rattle.exec_rules.specs.declared.home.Home.{Home}
use Rattle.exec_rules.specs.Kept.{BlobList}
use Rattle.exec_rules.specs.Keys.{last_of, key_by}
use Rattle.exec_rules.specs.Assigning.{entries_at}
use Rattle.core_rules.specs.FromScratch.{last_by, key_from, is_open_last, has_open}
use Rattle.core_rules.proofs.Tables.{AreOlder}
use Rattle.core_rules.proofs.Facts.{NodeFacts}
use Rattle.core_rules.proofs.KnownPlaces.{place_found}
use Rattle.core_rules.proofs.ImportAliases.{ImportStands, pairs_by, handed_by, handed_at, own_found, found_pairs}

-- the commands of the node at a place
pub entries_found : (nodes : NodeList) (q : ℕ) (pair : List ℕ × Node) → slice_get nodes q ≡ Some pair
    → entries_at nodes q ≡ pair.1.entries
entries_found nodes q pair at = ap (λ o. option_map_or (λ (x : List ℕ × Node). x.1.entries) o []) at

module _ (nodes : NodeList) (facts : NodeFacts nodes) (homes : List Home) (older : AreOlder homes) (blobs : BlobList)
    (assigned : ℕ → Assigned) where
  one_pairs : (name : List ℕ) (o : Option ℕ) → place_of nodes name ≡ o → ImportStands homes nodes blobs assigned name
      → is_open_last (option_map_or (λ p. last_of (entries_at nodes p) (assigned p).rows) o Empty) ≡ false
      → pairs_of nodes o ≡ pairs_by homes (option_map_or (λ p. last_of (entries_at nodes p) (assigned p).rows) o Empty)
  one_pairs name None e stands shut = refl
  one_pairs name (Some q) e stands shut =
      let found = place_found nodes name q e in
      let here = stands q found.pair e found.stands in
      let same : last_of found.pair.1.entries (assigned q).rows ≡ last_of (entries_at nodes q) (assigned q).rows =
      ap (λ es. last_of es (assigned q).rows) (sym (entries_found nodes q found.pair found.stands)) in
      found_pairs nodes facts homes older blobs assigned q found.pair _ found.stands here.0 here.1 same shut

  pub all_pairs : (names : List (List ℕ)) → AllByRecursion (ImportStands homes nodes blobs assigned) names
      → list_any is_open_last (map (last_by nodes assigned) names) ≡ false
      → flat_map (pairs_of nodes) (map (place_of nodes) names) ≡ flat_map (pairs_by homes) (map (last_by nodes assigned) names)
  all_pairs [] all shut = refl
  all_pairs (name ∷ names) all shut =
      let parts = or_parts (is_open_last (last_by nodes assigned name)) (list_any is_open_last (map (last_by nodes assigned) names)) shut in
      ap (λ xs. xs ++ flat_map (pairs_of nodes) (map (place_of nodes) names))
      (one_pairs name (place_of nodes name) refl all.0 parts.0)
      ∙ ap (λ xs. pairs_by homes (last_by nodes assigned name) ++ xs) (all_pairs names all.1 parts.1)

  module _ (p : ℕ) (pair : List ℕ × Node) (at : slice_get nodes p ≡ Some pair) where
    ordered_handed : find (is_bad nodes) pair.1.imports ≡ None
        → handed_down nodes p ≡ flat_map (pairs_of nodes) (aims_of nodes pair.1)
    ordered_handed good = handed_at nodes facts p pair at
        ∙ ap (λ b. cond b (flat_map (pairs_of nodes) (aims_of nodes pair.1)) []) ((facts.ordered p pair at).1 good)

    other_by : (b : Bool) (name : List ℕ) → is_ordered nodes p ≡ b → find (is_bad nodes) pair.1.imports ≡ Some name
        → cond b (flat_map (pairs_of nodes) (aims_of nodes pair.1)) [] ≡ []
    other_by false name e bad = refl
    other_by true name e bad = let none = (facts.ordered p pair at).0 e in absurd (cc)

    handed_key : (o : Option (List ℕ)) → find (is_bad nodes) pair.1.imports ≡ o
        → (o ≡ None → AllByRecursion (ImportStands homes nodes blobs assigned) pair.1.imports)
        → has_open (key_by o (map (last_by nodes assigned) pair.1.imports)) ≡ false
        → handed_down nodes p ≡ handed_by homes (key_by o (map (last_by nodes assigned) pair.1.imports))
    handed_key None e stands shut = ordered_handed e ∙ all_pairs pair.1.imports (stands refl) shut
    handed_key (Some name) e stands shut = handed_at nodes facts p pair at ∙ other_by (is_ordered nodes p) name refl e

    -- the aliases of a node, by its key and its header
    pub aliases_by_key : (key : Key) → key ≡ key_from nodes assigned pair.1 → has_open key ≡ false
        → (find (is_bad nodes) pair.1.imports ≡ None → AllByRecursion (ImportStands homes nodes blobs assigned) pair.1.imports)
        → aliases_at nodes p ≡ folded no_aliases (handed_by homes key ++ own_pairs pair.1)
    aliases_by_key key e shut stands =
        let handed = handed_key (find (is_bad nodes) pair.1.imports) refl stands (sym (ap has_open e) ∙ shut) in
        facts.fold p (slice_get_within nodes p pair at)
        ∙ ap (λ xs. folded no_aliases (xs ++ own_at nodes p)) (handed ∙ ap (handed_by homes) (sym e))
        ∙ ap (λ xs. folded no_aliases (handed_by homes key ++ xs)) (own_found nodes facts p pair at)
