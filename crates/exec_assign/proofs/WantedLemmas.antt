-- How many commands are wanted, at most.
use Rattle.std.proofs.Common.{◌≡◌, ℕ, zero, suc, ◌≤◌, Bool, true, false, cond, List, [], ◌∷◌, length, Option, Some, sym, subst, arith}
use Rattle.std.specs.Prelude.{slice_get, nat_lt}
use Rattle.std.specs.Option.{option_map_or}
use Rattle.doc_nodes.specs.declared.node.Entry.{Entry}
use Rattle.doc_nodes.specs.declared.node.Node.{Node}
use Rattle.doc_nodes.specs.Imports.{NodeList}
use Rattle.doc_nodes.specs.Prefix.{up_to, wanted_prefix, own_wanted}
use Rattle.doc_nodes.specs.Wanted.{is_reached, wanted_at}
use Rattle.exec_rules.specs.Assigning.{greater}
use Rattle.exec_rules.proofs.KnownCounts.{all_or, greater_by}

up_within : (v : Bool) (n m : ℕ) → n ≤ m → up_to v n ≤ suc m
up_within true zero m le = omega arith
up_within false zero m le = omega arith
up_within v (suc n) m le = omega arith

prefix_within : (es : List Entry) → wanted_prefix es ≤ length es
prefix_within [] = omega arith
prefix_within (e ∷ es) = up_within e.visible (wanted_prefix es) (length es) (prefix_within es)

-- no more are wanted than there are commands
wanted_within : (nodes : NodeList) (p : ℕ) (pair : List ℕ × Node) → slice_get nodes p ≡ Some pair
    → wanted_at nodes p ≤ length pair.1.entries
wanted_within nodes p pair at =
    subst (λ (o : Option (List ℕ × Node)). option_map_or
    (λ pair. cond (is_reached nodes p) (length pair.1.entries) (own_wanted pair.1)) o 0 ≤ length pair.1.entries)
    (sym at)
    (all_or (is_reached nodes p) (own_wanted pair.1) (length pair.1.entries)
    (all_or pair.1.required (wanted_prefix pair.1.entries) (length pair.1.entries) (prefix_within pair.1.entries)))

-- nor assigned
pub count_within : (nodes : NodeList) (p : ℕ) (pair : List ℕ × Node) (k : ℕ) → slice_get nodes p ≡ Some pair → k ≤ length pair.1.entries
    → greater k (wanted_at nodes p) ≤ length pair.1.entries
count_within nodes p pair k at le =
    greater_by (nat_lt k (wanted_at nodes p)) k (wanted_at nodes p) (length pair.1.entries) le (wanted_within nodes p pair at)
