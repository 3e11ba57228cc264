-- The node that is found under a name: its commands, their ids, its header.
use Rattle.std.proofs.Common.{◌≡◌, ℕ, zero, suc, ◌<◌, Bool, true, false, cond, List, [], ◌∷◌, ◌++◌, map, Some, refl, sym, ap, subst, ◌∙◌}
use Rattle.std.proofs.lemmas.Bool.{false≢true}
use Rattle.std.specs.Prelude.{slice_get, find}
use Rattle.std.specs.List.{AllByRecursion}
use Rattle.std.specs.Option.{option_map, option_and_then}
use Rattle.text_words.proofs.KnownLists.{position_found}
use Rattle.text_words.specs.Members.{has}
use Rattle.text_words.proofs.KnownMembers.{has_itself, has_left, has_right}
use Rattle.shared_map.specs.Pairs.{found, has_key}
use Rattle.doc_nodes.specs.declared.node.Entry.{Entry}
use Rattle.doc_nodes.specs.declared.node.Node.{Node}
use Rattle.doc_nodes.specs.Names.{in_order, equal}
use Rattle.doc_nodes.specs.Imports.{NodeList, place_of}
use Rattle.core_rules.specs.exec_rules_below.declared.version.Version.{Version}
use Rattle.core_rules.specs.Assigned.{command_ids}
use Rattle.core_rules.specs.Updates.{AllDiffer, node_in}
use Rattle.core_rules.proofs.KnownCommands.{differ_front, differ_back}
use Rattle.buffer_rules.specs.Cuts.{source}
use Rattle.buffer_rules.specs.Numbers.{Command}
use Rattle.buffer_rules.specs.Preparing.{Buffer}
use Rattle.buffer_laws.specs.Known.{AreBelow, HasOwnHeader}
use Rattle.buffer_laws.proofs.Members.{below_of}

pub node_found : (version : Version) (nodes : NodeList) (name : List ℕ) → version.nodes ≡ nodes → node_in version name ≡ found in_order name nodes
node_found version nodes name same =
    ap (λ ns. option_map (λ (pair : List ℕ × Node). pair.1) (option_and_then (slice_get ns) (place_of ns name))) same
    ∙ ap (option_map (λ (pair : List ℕ × Node). pair.1)) (position_found (λ (pair : List ℕ × Node). equal pair.0 name) nodes)

-- a command at a place, with its source
pub command_at : (node : Node) (es : List Entry) (i : ℕ) (c : Command) → slice_get (map (λ (e : Entry). (e.command, source node.text e.range)) es) i ≡ Some c
    → (e : Entry) × (slice_get es i ≡ Some e) × (c.0 ≡ e.command) × (c.1 ≡ source node.text e.range)
command_at node [] i c at = absurd (cc)
command_at node (x ∷ es) zero c at =
    let same : (x.command, source node.text x.range) ≡ c = cc in
    (x, refl, ap (λ (d : Command). d.0) (sym same), ap (λ (d : Command). d.1) (sym same))
command_at node (x ∷ es) (suc i) c at = command_at node es i c at

-- where ids differ, one id has one place
has_at : (es : List Entry) (i : ℕ) (e : Entry) → slice_get es i ≡ Some e → has (map (λ (x : Entry). x.command) es) e.command ≡ true
has_at [] i e at = absurd (cc)
has_at (x ∷ es) zero e at =
    let same : x ≡ e = cc in
    subst (λ (y : Entry). has (x.command ∷ map (λ (z : Entry). z.command) es) y.command ≡ true) same (has_itself (map (λ (z : Entry). z.command) es) x.command)
has_at (x ∷ es) (suc i) e at =
    has_right (x.command ∷ []) (map (λ (z : Entry). z.command) es) e.command (has_at es i e at)

pub first_place : (es : List Entry) (i : ℕ) (e b : Entry) → AllDiffer (map (λ (x : Entry). x.command) es) → slice_get es i ≡ Some e
    → slice_get es 0 ≡ Some b → e.command ≡ b.command → e ≡ b
first_place [] i e b differ at first same = absurd (cc)
first_place (x ∷ es) zero e b differ at first same = cc
first_place (x ∷ es) (suc i) e b differ at first same =
    let here : x ≡ b = cc in
    let is : e.command ≡ x.command = same ∙ ap (λ (y : Entry). y.command) (sym here) in
    absurd (false≢true (sym differ.0 ∙ ap (has (map (λ (z : Entry). z.command) es)) (sym is) ∙ has_at es i e at))

-- what is found stands among the nodes: its ids differ, are below the next one, and it has its header
pub record IsNodeOf (b : Buffer) (node : Node) : Type 0 where
  pub differ : AllDiffer (map (λ (e : Entry). e.command) node.entries)
  pub below : (i : ℕ) (e : Entry) → slice_get node.entries i ≡ Some e → e.command < b.next
  pub header : HasOwnHeader node

module _ (b : Buffer) where
  pub found_node : (nodes : NodeList) (name : List ℕ) (node : Node) → AllDiffer (command_ids nodes) → AreBelow b.next (command_ids nodes)
      → AllByRecursion (λ pair. HasOwnHeader pair.1) nodes → found in_order name nodes ≡ Some node → IsNodeOf b node
  found_node [] name node differ below headers e = absurd (cc)
  found_node (n ∷ ns) name node differ below headers e =
      go (has_key in_order name n) e
      (λ later. found_node ns name node (differ_back (map (λ (x : Entry). x.command) n.1.entries) (command_ids ns) differ)
      (below_last n.1.entries below) headers.1 later)
    where
      below_last : (es : List Entry) → AreBelow b.next (map (λ (x : Entry). x.command) es ++ command_ids ns) → AreBelow b.next (command_ids ns)
      below_last [] all = all
      below_last (x ∷ es) all = below_last es all.1

      go : (c : Bool) → option_map (λ (pair : List ℕ × Node). pair.1) (cond c (Some n) (find (has_key in_order name) ns)) ≡ Some node
          → (found in_order name ns ≡ Some node → IsNodeOf b node) → IsNodeOf b node
      go false e later = later e
      go true e later =
          let same : n.1 ≡ node = cc in
          subst (IsNodeOf b) same (record {
            differ = differ_front (map (λ (x : Entry). x.command) n.1.entries) (command_ids ns) differ;
            below = λ i x at. below_of b.next (map (λ (z : Entry). z.command) n.1.entries ++ command_ids ns) x.command below
                (has_left (map (λ (z : Entry). z.command) n.1.entries) (command_ids ns) x.command (has_at n.1.entries i x at));
            header = headers.0;
          })
