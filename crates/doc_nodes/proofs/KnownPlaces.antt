-- The place of a name among nodes whose names rise.
use Rattle.std.proofs.Common.{◌≡◌, ℕ, zero, suc, List, [], ◌∷◌, Some, subst, ◌+◌, cond, sym, ap, ◌∙◌, arith, length, None}
use Rattle.std.specs.Prelude.{slice_get, not, nat_lt}
use Rattle.std.specs.List.{position_or_len}
use Rattle.std.specs.Ordering.{is_eq}
use Rattle.std.specs.declared.cmp.Ordering.TheVariants.{Less}
use Rattle.std.proofs.lemmas.Bool.{lt-ltb}
use Rattle.std.proofs.lemmas.Option.{slice_get_within}
use Rattle.doc_nodes.specs.declared.node.Node.{Node}
use Rattle.doc_nodes.specs.Names.{in_order, equal}
use Rattle.doc_nodes.specs.Imports.{NodeList, place_of}
use Rattle.doc_nodes.proofs.KnownNames.{name_itself}
use Rattle.shared_map.specs.Pairs.{Each, IsSorted}

-- what holds of each holds of what stands at a place
pub each_at : {X : Type 0} (P : X → Type 0) (xs : List X) (i : ℕ) (x : X) → Each P xs → slice_get xs i ≡ Some x → P x
each_at P [] i x all at = absurd (cc)
each_at P (y ∷ xs) zero x all at = let same : y ≡ x = cc in subst P same all.0
each_at P (y ∷ xs) (suc i) x all at = each_at P xs i x all.1 at

-- names that rise: none before a node has its name
pub first_named : (nodes : NodeList) (p : ℕ) (pair : List ℕ × Node) → IsSorted in_order nodes → slice_get nodes p ≡ Some pair
    → position_or_len (λ other. equal other.0 pair.0) nodes ≡ p
first_named [] p pair sorted at = absurd (cc)
first_named (n ∷ ns) zero pair sorted at =
    let same : n ≡ pair = cc in
    ap (λ (x : List ℕ × Node). cond (not (equal n.0 x.0)) (1 + position_or_len (λ other. equal other.0 x.0) ns) 0) (sym same)
    ∙ ap (λ b. cond (not b) (1 + position_or_len (λ other. equal other.0 n.0) ns) 0) (name_itself n.0)
first_named (n ∷ ns) (suc p) pair sorted at =
    let less : in_order n.0 pair.0 ≡ Less = each_at (λ other. in_order n.0 other.0 ≡ Less) ns p pair sorted.0 at in
    let rest : 1 + position_or_len (λ other. equal other.0 pair.0) ns ≡ suc p = omega (arith, first_named ns p pair sorted.1 at) in
    ap (λ o. cond (not (is_eq o)) (1 + position_or_len (λ other. equal other.0 pair.0) ns) 0) less ∙ rest

-- so a node's place is that of its name
pub place_named : (nodes : NodeList) (p : ℕ) (pair : List ℕ × Node) → IsSorted in_order nodes → slice_get nodes p ≡ Some pair
    → place_of nodes pair.0 ≡ Some p
place_named nodes p pair sorted at =
    ap (λ i. cond (nat_lt i (length nodes)) (Some i) None) (first_named nodes p pair sorted at)
    ∙ ap (λ b. cond b (Some p) None) (lt-ltb p (length nodes) (slice_get_within nodes p pair at))
