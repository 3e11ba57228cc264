-- What holds of the nodes of every version, and of keys.
use Rattle.std.proofs.Common.{◌≡◌, ℕ, ◌<◌, ◌≤◌, ◌↔◌, true, false, List, ◌∷◌, ◌++◌, length, Some, None, refl}
use Rattle.std.specs.Prelude.{slice_get}
use Rattle.std.specs.List.{list_all}
use Rattle.text_words.specs.Members.{has}
use Rattle.doc_nodes.specs.Rounds.{is_known}
use Rattle.doc_nodes.specs.declared.node.Entry.{Entry}
use Rattle.doc_nodes.specs.declared.node.Node.{Node}
use Rattle.doc_nodes.specs.Imports.{NodeList, place_of, is_ordered, order, placed_node}
use Rattle.doc_nodes.specs.Aliases.{no_aliases, folded, own_at, aliases_at}
use Rattle.doc_nodes.specs.HandedDown.{handed_down}
use Rattle.doc_nodes.specs.Prefix.{wanted_prefix, IsWantedPrefix}
use Rattle.doc_nodes.specs.Reached.{Reached}
use Rattle.doc_nodes.specs.Wanted.{is_reached}
use Rattle.exec_rules.specs.declared.key.Key.{Key}
use Rattle.exec_rules.specs.Keys.{same_key}

-- the order of imports, what is wanted, and aliases
pub record NodeFacts (nodes : NodeList) : Type 0 where
  pub every : (p : ℕ) → (has (order nodes) p ≡ true) ↔ (p < length nodes)
  pub once : (front rest : List ℕ) (p : ℕ) → order nodes ≡ front ++ p ∷ rest → has front p ≡ false
  pub behind : (front rest : List ℕ) (p : ℕ) (pair : List ℕ × Node) → order nodes ≡ front ++ p ∷ rest
      → slice_get nodes p ≡ Some pair → is_ordered nodes p ≡ true
      → list_all (λ name. is_known front (place_of nodes name)) pair.1.imports ≡ true
  pub ordered : (p : ℕ) (pair : List ℕ × Node) → slice_get nodes p ≡ Some pair
      → (is_ordered nodes p ≡ true) ↔ ((placed_node nodes pair).bad ≡ None)
  pub reached : (p : ℕ) → (is_reached nodes p ≡ true) ↔ Reached nodes p
  pub fold : (p : ℕ) → p < length nodes
      → aliases_at nodes p ≡ folded no_aliases (handed_down nodes p ++ own_at nodes p)

pub record Facts : Type 0 where
  pub nodes : (nodes : NodeList) → NodeFacts nodes
  pub prefix : (es : List Entry) → wanted_prefix es ≤ length es
  pub keys : (a b : Key) → (same_key a b ≡ true) ↔ (a ≡ b)

-- they are the laws of nodes and of keys
pub facts_from : ((ns : NodeList) (p : ℕ) → (has (order ns) p ≡ true) ↔ (p < length ns))
    → ((ns : NodeList) (front rest : List ℕ) (p : ℕ) → order ns ≡ front ++ p ∷ rest → has front p ≡ false)
    → ((ns : NodeList) (front rest : List ℕ) (p : ℕ) (pair : List ℕ × Node) → order ns ≡ front ++ p ∷ rest
    → slice_get ns p ≡ Some pair → is_ordered ns p ≡ true
    → list_all (λ name. is_known front (place_of ns name)) pair.1.imports ≡ true)
    → ((ns : NodeList) (p : ℕ) (pair : List ℕ × Node) → slice_get ns p ≡ Some pair
    → (is_ordered ns p ≡ true) ↔ ((placed_node ns pair).bad ≡ None))
    → ((ns : NodeList) (p : ℕ) → (is_reached ns p ≡ true) ↔ Reached ns p)
    → ((ns : NodeList) (p : ℕ) → p < length ns
    → aliases_at ns p ≡ folded no_aliases (handed_down ns p ++ own_at ns p))
    → ((es : List Entry) (n : ℕ) → IsWantedPrefix es n ↔ (n ≡ wanted_prefix es))
    → ((a b : Key) → (same_key a b ≡ true) ↔ (a ≡ b)) → Facts
facts_from every once behind ordered reached fold prefix keys = record {
  nodes = λ ns. record {
    every = every ns;
    once = once ns;
    behind = behind ns;
    ordered = ordered ns;
    reached = reached ns;
    fold = fold ns;
  };
  prefix = λ es. ((prefix es (wanted_prefix es)).1 refl).within;
  keys = keys;
}
