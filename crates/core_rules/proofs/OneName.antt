-- A name is that of one node, and the names of the tip rise.
use Rattle.std.proofs.Common.{◌≡◌, ℕ, zero, suc, List, [], ◌∷◌, Some, refl, ap, sym, subst, ◌∙◌}
use Rattle.std.specs.Prelude.{slice_get}
use Rattle.std.specs.Cmp.Lexicographic.{nat_list_cmp_total}
use Rattle.std.specs.declared.cmp.Ordering.{Ordering}
use Rattle.std.specs.declared.cmp.Ordering.TheVariants.{Less, Equal, Greater}
use Rattle.std.specs.Ordering.{ordering_reverse}
use Rattle.shared_map.specs.Pairs.{IsSorted}
use Rattle.doc_nodes.specs.declared.node.Node.{Node}
use Rattle.doc_nodes.specs.Names.{in_order}
use Rattle.doc_nodes.specs.Imports.{NodeList}
use Rattle.doc_nodes.proofs.KnownPlaces.{each_at}
use Rattle.language.specs.Lang.{Lang}
use Rattle.core_rules.specs.declared.event.Event.{Event}
use Rattle.core_rules.specs.declared.event.Event.TheVariants as event
use Rattle.core_rules.specs.Doc.{doc}
use Rattle.core_rules.specs.Legal.{IsLegal}

-- no name goes before itself
not_less : (o : Ordering) → o ≡ ordering_reverse o → o ≡ Less → Less ≡ Greater
not_less Less back is = back
not_less Equal back is = absurd (cc)
not_less Greater back is = absurd (cc)

apart : (x y : List ℕ) → in_order x y ≡ Less → x ≡ y → Less ≡ Greater
apart x y less same =
    not_less (in_order x x) (nat_list_cmp_total.antisymm x x) (subst (λ z. in_order x z ≡ Less) (sym same) less)

-- a name is that of one node
pub one_name : (nodes : NodeList) (p q : ℕ) (x y : List ℕ × Node) → IsSorted in_order nodes → slice_get nodes p ≡ Some x
    → slice_get nodes q ≡ Some y → x.0 ≡ y.0 → p ≡ q
one_name [] p q x y sorted at on same = absurd (cc)
one_name (n ∷ nodes) zero zero x y sorted at on same = refl
one_name (n ∷ nodes) zero (suc q) x y sorted at on same =
    let this : n ≡ x = cc in
    let less = each_at (λ other. in_order n.0 other.0 ≡ Less) nodes q y sorted.0 on in
    let bad = apart n.0 y.0 less (ap (λ (z : List ℕ × Node). z.0) this ∙ same) in absurd (cc)
one_name (n ∷ nodes) (suc p) zero x y sorted at on same =
    let this : n ≡ y = cc in
    let less = each_at (λ other. in_order n.0 other.0 ≡ Less) nodes p x sorted.0 at in
    let bad = apart n.0 x.0 less (ap (λ (z : List ℕ × Node). z.0) this ∙ sym same) in absurd (cc)
one_name (n ∷ nodes) (suc p) (suc q) x y sorted at on same = ap suc (one_name nodes p q x y sorted.1 at on same)

-- the nodes of the tip are in the order of names
pub tip_sorted : {S : Type 0} (l : Lang S) (h : List Event) → IsLegal l h → IsSorted in_order (doc l h).tip.nodes
tip_sorted l [] legal = tt
tip_sorted l (event.Update id nodes blobs ∷ h) legal = legal.1.1.names
tip_sorted l (event.Cancel e ∷ h) legal = tip_sorted l h legal.0
tip_sorted l (event.Remove ids ∷ h) legal = tip_sorted l h legal.0
tip_sorted l (event.Claimed who p ∷ h) legal = tip_sorted l h legal.0
tip_sorted l (event.Finished who p ∷ h) legal = tip_sorted l h legal.0
tip_sorted l (event.Dropped who p ∷ h) legal = tip_sorted l h legal.0
tip_sorted l (event.Ended ∷ h) legal = tip_sorted l h legal.0
