-- Places of nodes by name, and what stands at them.
use Rattle.std.proofs.Common.{◌≡◌, ℕ, zero, suc, ◌<◌, ◌⊎◌, inl, inr, Bool, true, false, ◌||◌, List, [], ◌∷◌, length, map, get_or, Some, refl, ap, Option, None, ◌∙◌}
use Rattle.std.proofs.lemmas.Option.{slice_get-get_or}
use Rattle.std.proofs.lemmas.List.Quantifiers.{position-Some}
use Rattle.std.specs.Prelude.{slice_get, slice_index_or}
use Rattle.std.specs.Option.{option_map_or, option_and_then}
use Rattle.doc_nodes.specs.declared.node.Node.{Node}
use Rattle.doc_nodes.specs.Names.{equal}
use Rattle.doc_nodes.specs.Imports.{NodeList, place_of, aims_of}
use Rattle.doc_nodes.proofs.KnownNames.{name_is}
use Rattle.exec_rules.specs.declared.row.Assigned.{Assigned}
use Rattle.exec_rules.specs.declared.version.Version.{Version}
use Rattle.exec_rules.specs.Keys.{nothing_assigned}
use Rattle.exec_rules.specs.Assigning.{rows_in}
use Rattle.core_rules.specs.FromScratch.{assigned_to}

-- the node of a name stands at its place
pub record FoundAt (nodes : NodeList) (name : List ℕ) (q : ℕ) : Type 0 where
  pub pair : List ℕ × Node
  pub stands : slice_get nodes q ≡ Some pair
  pub named : pair.0 ≡ name
  pub within : q < length nodes

pub place_found : (nodes : NodeList) (name : List ℕ) (q : ℕ) → place_of nodes name ≡ Some q → FoundAt nodes name q
place_found [] name q e = absurd (cc)
place_found (n ∷ ns) name q e =
    let h = position-Some (λ (pair : List ℕ × Node). equal pair.0 name) (n ∷ ns) q n e in
    record {
      pair = get_or (n ∷ ns) q n;
      stands = slice_get-get_or (n ∷ ns) q n h.0;
      named = name_is (get_or (n ∷ ns) q n).0 name h.1;
      within = h.0;
    }

-- the places of the imports of the node at a place
pub aims_found : (nodes all : NodeList) (p : ℕ) (pair : List ℕ × Node) → slice_get nodes p ≡ Some pair
    → slice_index_or (map (λ (x : List ℕ × Node). aims_of all x.1) nodes) p [] ≡ aims_of all pair.1
aims_found [] all p pair at = absurd (cc)
aims_found (n ∷ ns) all zero pair at = let same : n ≡ pair = cc in ap (λ (x : List ℕ × Node). aims_of all x.1) same
aims_found (n ∷ ns) all (suc p) pair at = aims_found ns all p pair at

pub among_by : (a b : Bool) (P Q : Type 0) → (a ≡ true → P) → (b ≡ true → Q) → (a || (b || false)) ≡ true → P ⊎ Q
among_by true b P Q f g e = inl (f refl)
among_by false true P Q f g e = inr (g refl)
among_by false false P Q f g e = absurd (cc)

-- the rows at the place of a name
pub rows_found : (v : Version) (name : List ℕ) (q : ℕ) → place_of v.nodes name ≡ Some q → rows_in v name ≡ (assigned_to v q).rows
rows_found v name q e =
    ap (λ o. option_map_or (λ (a : Assigned). a.rows) (option_and_then (slice_get v.assigned) o) []) e
    ∙ go (slice_get v.assigned q)
  where
    go : (o : Option Assigned) → option_map_or (λ (a : Assigned). a.rows) o []
        ≡ (option_map_or (λ (a : Assigned). a) o nothing_assigned).rows
    go None = refl
    go (Some a) = refl
