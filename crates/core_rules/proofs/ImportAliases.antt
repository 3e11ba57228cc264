-- The aliases of a node are told by what it rests on and by its own header.
use Rattle.std.proofs.Common.{◌≡◌, ℕ, Bool, true, false, cond, List, [], ◌∷◌, ◌++◌, length, map, Option, Some, None, refl, ap, sym, ◌∙◌}
use Rattle.std.proofs.lemmas.Bool.{false≢true}
use Rattle.std.proofs.lemmas.Option.{slice_get_within}
use Rattle.std.specs.Prelude.{slice_get}
use Rattle.std.specs.List.{flat_map}
use Rattle.std.specs.Option.{option_map_or}
use Rattle.doc_nodes.specs.declared.node.Node.{Node}
use Rattle.doc_nodes.specs.Imports.{NodeList, place_of, aims_of, aims, is_ordered}
use Rattle.doc_nodes.specs.Aliases.{no_aliases, folded, own_pairs, own_at, aliases_at}
use Rattle.doc_nodes.specs.HandedDown.{pairs_of, handed_down}
use Rattle.exec_rules.specs.declared.key.Last.{Last}
use Rattle.exec_rules.specs.declared.key.Last.TheVariants.{Empty, Open, Made}
use Rattle.exec_rules.specs.declared.key.Key.{Key}
use Rattle.exec_rules.specs.declared.key.Key.TheVariants.{Lasts, BadImport}
use Rattle.exec_rules.specs.declared.row.Assigned.{Assigned}
use Rattle.exec_rules.specs.declared.home.Head.{Head}
use Rattle.exec_rules.specs.declared.home.Input.TheVariants as input
use Rattle.exec_rules.specs.declared.home.Home.{Home}
use Rattle.exec_rules.specs.Kept.{BlobList}
use Rattle.exec_rules.specs.Keys.{last_of, by_row}
use Rattle.core_rules.specs.Numbered.{numbered}
use Rattle.core_rules.specs.FromScratch.{is_open_last, head_in}
use Rattle.core_rules.proofs.Tables.{AreOlder}
use Rattle.core_rules.proofs.HomedRows.{RowsHomed}
use Rattle.core_rules.proofs.Heads.{head_of, last_head}
use Rattle.core_rules.proofs.Facts.{NodeFacts}
use Rattle.core_rules.proofs.KnownPlaces.{aims_found}

-- a node without commands has no imports and no aliases
abbrev pub IsBare : List ℕ × Node → Type 0
IsBare pair = pair.1.entries ≡ [] → (pair.1.imports ≡ []) × (pair.1.keywords ≡ [])

-- a node's rows go by what stands beside them
pub record Stands (homes : List Home) (nodes : NodeList) (blobs : BlobList) (p : ℕ)
    (pair : List ℕ × Node) (a : Assigned) : Type 0 where
  pub homed : RowsHomed (numbered homes) pair.1 blobs pair.1.entries a.rows (input.First (head_in nodes p pair a.key))

-- so do those of an import
abbrev pub ImportStands : List Home → NodeList → BlobList → (ℕ → Assigned) → List ℕ → Type 0
ImportStands homes nodes blobs assigned name = (q : ℕ) (pair : List ℕ × Node) → place_of nodes name ≡ Some q
    → slice_get nodes q ≡ Some pair → IsBare pair × Stands homes nodes blobs q pair (assigned q)

-- what an import hands down, by its last command
abbrev pub pairs_by : List Home → Last → List (List ℕ × List ℕ)
pairs_by homes Empty = []
pairs_by homes Open = []
pairs_by homes (Made e) = option_map_or (λ head. head.aliases.pairs) (head_of homes e) []

abbrev pub handed_by : List Home → Key → List (List ℕ × List ℕ)
handed_by homes (Lasts lasts) = flat_map (pairs_by homes) lasts
handed_by homes (BadImport name) = []

module _ (nodes : NodeList) (facts : NodeFacts nodes) where
  no_imports : (b : Bool) (p : ℕ) (aims : List (Option ℕ)) → aims ≡ [] → cond b (flat_map (pairs_of nodes) aims) [] ≡ []
  no_imports true p aims e = ap (flat_map (pairs_of nodes)) e
  no_imports false p aims e = refl

  pub handed_at : (p : ℕ) (pair : List ℕ × Node) → slice_get nodes p ≡ Some pair
      → handed_down nodes p ≡ cond (is_ordered nodes p) (flat_map (pairs_of nodes) (aims_of nodes pair.1)) []
  handed_at p pair at = ap (λ aims. cond (is_ordered nodes p) (flat_map (pairs_of nodes) aims) []) (aims_found nodes nodes p pair at)

  pub own_found : (p : ℕ) (pair : List ℕ × Node) → slice_get nodes p ≡ Some pair → own_at nodes p ≡ own_pairs pair.1
  own_found p pair at = ap (λ o. option_map_or (λ (x : List ℕ × Node). own_pairs x.1) o []) at

  pub bare_aliases : (p : ℕ) (pair : List ℕ × Node) → slice_get nodes p ≡ Some pair → IsBare pair → pair.1.entries ≡ []
      → aliases_at nodes p ≡ no_aliases
  bare_aliases p pair at bare none =
      let parts = bare none in
      let handed : handed_down nodes p ≡ [] = handed_at p pair at
      ∙ no_imports (is_ordered nodes p) p (aims_of nodes pair.1) (ap (map (place_of nodes)) parts.0) in
      let own : own_at nodes p ≡ [] = own_found p pair at ∙ ap (map (λ pair. (pair.name, pair.target))) parts.1 in
      facts.fold p (slice_get_within nodes p pair at) ∙ ap (λ xs. folded no_aliases (xs ++ own_at nodes p)) handed
      ∙ ap (folded no_aliases) own

  module _ (homes : List Home) (older : AreOlder homes) (blobs : BlobList) (assigned : ℕ → Assigned) where
    pub found_pairs : (q : ℕ) (pair : List ℕ × Node) (last : Last) → slice_get nodes q ≡ Some pair → IsBare pair
        → Stands homes nodes blobs q pair (assigned q) → last_of pair.1.entries (assigned q).rows ≡ last
        → is_open_last last ≡ false → (aliases_at nodes q).pairs ≡ pairs_by homes last
    found_pairs q pair Open at bare stands e shut = absurd (false≢true (sym shut))
    found_pairs q pair Empty at bare stands e shut =
        ap (λ (a : _). a.pairs) (bare_aliases q pair at bare (empty_last pair.1.entries (assigned q).rows e))
      where
        empty_by : (o : Option _) → by_row o ≡ Empty → ⊥
        empty_by None e = absurd (cc)
        empty_by (Some r) e = absurd (cc)

        empty_last : (es : _) (rs : _) → last_of es rs ≡ Empty → es ≡ []
        empty_last [] rs e = refl
        empty_last (x ∷ es) rs e = absurd (empty_by (slice_get rs (length es)) e)
    found_pairs q pair (Made e) at bare stands is shut =
        sym (ap (λ o. option_map_or (λ (head : Head). head.aliases.pairs) o [])
        (last_head homes older pair.1 blobs (head_in nodes q pair (assigned q).key) pair.1.entries (assigned q).rows
        (input.First (head_in nodes q pair (assigned q).key)) e stands.homed.evaluate refl is))
