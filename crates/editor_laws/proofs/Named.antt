-- What is found by the names of nodes.
use Rattle.std.proofs.Common.{◌≡◌, ℕ, zero, suc, Bool, true, false, cond, List, [], ◌∷◌, map, Some, None, refl, ap, sym, ◌∙◌}
use Rattle.std.proofs.lemmas.Bool.{false≢true}
use Rattle.std.specs.Prelude.{find, slice_get}
use Rattle.std.specs.Option.{option_map, option_and_then}
use Rattle.text_words.proofs.KnownLists.{position_found}
use Rattle.doc_nodes.specs.declared.node.Node.{Node}
use Rattle.doc_nodes.specs.Names.{in_order, equal}
use Rattle.doc_nodes.specs.Imports.{NodeList, place_of}
use Rattle.doc_nodes.proofs.KnownNames.{name_is, name_itself}
use Rattle.shared_map.specs.Pairs.{found}

module _ {V : Type 0} (value : List ℕ × Node → V) where
  abbrev pub valued : List ℕ × Node → List ℕ × V
  valued pair = (pair.0, value pair)

  -- the value of a node that is the only one of its name, or of which others have the same
  pub found_at : (nodes : NodeList) (p : ℕ) (pair : List ℕ × Node)
      → ((q : ℕ) (other : List ℕ × Node) → slice_get nodes q ≡ Some other → other.0 ≡ pair.0 → value other ≡ value pair)
      → slice_get nodes p ≡ Some pair → found in_order pair.0 (map valued nodes) ≡ Some (value pair)
  found_at [] p pair one at = absurd (cc)
  found_at (n ∷ ns) p pair one at =
      go (equal n.0 pair.0) refl p at (λ q there. found_at ns q pair (λ i other. one (suc i) other) there)
    where
      go : (b : Bool) → equal n.0 pair.0 ≡ b → (q : ℕ) → slice_get (n ∷ ns) q ≡ Some pair
          → ((i : ℕ) → slice_get ns i ≡ Some pair → found in_order pair.0 (map valued ns) ≡ Some (value pair))
          → option_map (λ (x : List ℕ × V). x.1) (cond b (Some (valued n)) (find (λ (x : List ℕ × V). equal x.0 pair.0) (map valued ns))) ≡ Some (value pair)
      go true is q there rest = ap (λ v. Some v) (one zero n refl (name_is n.0 pair.0 is))
      go false is zero there rest =
          let same : n ≡ pair = cc in
          absurd (false≢true (sym is ∙ ap (λ (x : List ℕ × Node). equal x.0 pair.0) same ∙ name_itself pair.0))
      go false is (suc q) there rest = rest q there

  -- none has the name
  pub found_none : (nodes : NodeList) (name : List ℕ) → find (λ (pair : List ℕ × Node). equal pair.0 name) nodes ≡ None
      → found in_order name (map valued nodes) ≡ None
  found_none [] name none = refl
  found_none (n ∷ ns) name none = go (equal n.0 name) none (found_none ns name)
    where
      go : (b : Bool) → cond b (Some n) (find (λ (pair : List ℕ × Node). equal pair.0 name) ns) ≡ None
          → (find (λ (pair : List ℕ × Node). equal pair.0 name) ns ≡ None → found in_order name (map valued ns) ≡ None)
          → option_map (λ (x : List ℕ × V). x.1) (cond b (Some (valued n)) (find (λ (x : List ℕ × V). equal x.0 name) (map valued ns))) ≡ None
      go true none rest = absurd (cc)
      go false none rest = rest none

  -- by the place of a name
  pub found_by : (nodes : NodeList) (name : List ℕ) → place_of nodes name ≡ None → found in_order name (map valued nodes) ≡ None
  found_by nodes name none = found_none nodes name
      (sym (position_found (λ (pair : List ℕ × Node). equal pair.0 name) nodes)
      ∙ ap (λ o. option_and_then (slice_get nodes) o) none)
