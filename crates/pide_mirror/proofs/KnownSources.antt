-- Commands that keep their ids keep their sources.
use Rattle.std.proofs.Common.{◌≡◌, ℕ, zero, suc, ◌<◌, inl, inr, Bool, true, false, cond, List, [], ◌∷◌, Option, Some, None, refl, ap, sym, subst, ◌∙◌, arith}
use Rattle.std.specs.Prelude.{find, slice_get}
use Rattle.std.specs.Option.{option_map, option_map_or}
use Rattle.std.specs.List.{AllByRecursion}
use Rattle.std.proofs.lemmas.Bool.{false≢true}
use Rattle.text_words.specs.Members.{has}
use Rattle.text_words.proofs.KnownMembers.{each_has}
use Rattle.text_words.proofs.KnownFinds.{map_get}
use Rattle.exec_rules.proofs.KnownThere.{all_at}
use Rattle.shared_map.specs.Pairs.{has_key, found}
use Rattle.doc_nodes.specs.declared.node.Entry.{Entry}
use Rattle.doc_nodes.specs.declared.node.Node.{Node}
use Rattle.doc_nodes.specs.Names.{in_order}
use Rattle.doc_nodes.proofs.KnownNames.{name_is}
use Rattle.doc_nodes.specs.Imports.{NodeList}
use Rattle.core_rules.specs.Assigned.{command_ids}
use Rattle.core_rules.specs.Updates.{AllDiffer}
use Rattle.core_rules.proofs.KnownCommands.{ids, id_there, command_there, same_id, differ_front, differ_back}
use Rattle.buffer_rules.specs.Cuts.{source, commands_of}
use Rattle.buffer_rules.specs.Nodes.{before_in}
use Rattle.buffer_rules.specs.Numbers.{Command}
use Rattle.buffer_laws.specs.Known.{AreBelow, IsNewOr, AreKnown}
use Rattle.pide_mirror.specs.Places.{HaveSources}
use Rattle.pide_mirror.proofs.Finding.{differ_behind}
use Rattle.pide_mirror.proofs.NodesFound.{mapped_at}

-- commands of one id stand at one place
pub one_site : (nodes : NodeList) (q i r j : ℕ) (a b : List ℕ × Node) (x y : Entry) → AllDiffer (command_ids nodes)
    → slice_get nodes q ≡ Some a → slice_get a.1.entries i ≡ Some x → slice_get nodes r ≡ Some b → slice_get b.1.entries j ≡ Some y
    → x.command ≡ y.command → (a ≡ b) × (x ≡ y)
one_site [] q i r j a b x y differ at xt bt yt same = absurd (cc)
one_site (n ∷ ns) zero i zero j a b x y differ at xt bt yt same =
    let here : n ≡ a = cc in
    let there : n ≡ b = cc in
    let both : a ≡ b = sym here ∙ there in
    let other : slice_get a.1.entries j ≡ Some y = subst (λ (p : List ℕ × Node). slice_get p.1.entries j ≡ Some y) (sym both) yt in
    let apart = subst (λ (p : List ℕ × Node). AllDiffer (ids p.1.entries)) here (differ_front (ids n.1.entries) (command_ids ns) differ) in
    (both, same_id a.1.entries i j x y apart xt other same)
one_site (n ∷ ns) zero i (suc r) j a b x y differ at xt bt yt same =
    let here : n ≡ a = cc in
    let mine : has (ids n.1.entries) y.command ≡ true
    = subst (λ (p : List ℕ × Node). has (ids p.1.entries) y.command ≡ true) (sym here) (ap (λ c. has (ids a.1.entries) c) (sym same) ∙ id_there a.1.entries i x xt) in
    absurd (false≢true (sym (differ_behind (ids n.1.entries) (command_ids ns) y.command differ mine) ∙ command_there ns r j b y bt yt))
one_site (n ∷ ns) (suc q) i zero j a b x y differ at xt bt yt same =
    let here : n ≡ b = cc in
    let mine : has (ids n.1.entries) x.command ≡ true
    = subst (λ (p : List ℕ × Node). has (ids p.1.entries) x.command ≡ true) (sym here) (ap (λ c. has (ids b.1.entries) c) same ∙ id_there b.1.entries j y yt) in
    absurd (false≢true (sym (differ_behind (ids n.1.entries) (command_ids ns) x.command differ mine) ∙ command_there ns q i a x at xt))
one_site (n ∷ ns) (suc q) i (suc r) j a b x y differ at xt bt yt same =
    one_site ns q i r j a b x y (differ_back (ids n.1.entries) (command_ids ns) differ) at xt bt yt same

-- a node that is found stands somewhere
pub node_stands : (nodes : NodeList) (name : List ℕ) (node : Node) → found in_order name nodes ≡ Some node
    → (q : ℕ) × (pair : List ℕ × Node) × (slice_get nodes q ≡ Some pair) × (pair.1 ≡ node) × (pair.0 ≡ name)
node_stands [] name node is = absurd (cc)
node_stands (n ∷ ns) name node is = go (has_key in_order name n) refl is (node_stands ns name node)
  where
    go : (b : Bool) → has_key in_order name n ≡ b → option_map (λ (pair : List ℕ × Node). pair.1) (cond b (Some n) (find (has_key in_order name) ns)) ≡ Some node
        → (found in_order name ns ≡ Some node → (q : ℕ) × (pair : List ℕ × Node) × (slice_get ns q ≡ Some pair) × (pair.1 ≡ node) × (pair.0 ≡ name))
        → (q : ℕ) × (pair : List ℕ × Node) × (slice_get (n ∷ ns) q ≡ Some pair) × (pair.1 ≡ node) × (pair.0 ≡ name)
    go true mine at more = (zero, n, refl, cc, name_is n.0 name mine)
    go false other at more = let rest = more at in (suc rest.0, rest.1, rest.2, rest.3, rest.4)

-- what an update's commands are known to be gives their sources
pub sources_kept : (tip nodes : NodeList) (next : ℕ) → AllDiffer (command_ids tip) → AreBelow next (command_ids tip) → AreKnown tip next nodes → HaveSources tip nodes
sources_kept tip nodes next differ below known pair other e f s t same =
    go (all_at (IsNewOr next (before_in tip pair.0)) (commands_of pair.1) s.at (e.command, source pair.1.text e.range)
    (all_at (λ p. AllByRecursion (IsNewOr next (before_in tip p.0)) (commands_of p.1)) nodes s.node pair known s.node_is)
    (map_get (λ (x : Entry). (x.command, source pair.1.text x.range)) pair.1.entries s.at e s.entry_is))
  where
    under : f.command < next
    under = each_has (λ id. id < next) (command_ids tip) f.command below (command_there tip t.node t.at other f t.node_is t.entry_is)

    old : (i : ℕ) (o : Option Node) → found in_order pair.0 tip ≡ o → slice_get (option_map_or commands_of o []) i ≡ Some (e.command, source pair.1.text e.range)
        → (other.0 ≡ pair.0) × (source pair.1.text e.range ≡ source other.1.text f.range)
    old i None is at = absurd (cc)
    old i (Some node) is at =
        let n = node_stands tip pair.0 node is in
        let c = mapped_at (λ (x : Entry). (x.command, source node.text x.range)) node.entries i (e.command, source pair.1.text e.range) at in
        let entry : slice_get n.1.1.entries i ≡ Some c.0 = subst (λ (m : Node). slice_get m.entries i ≡ Some c.0) (sym n.3) c.1 in
        let one = one_site tip n.0 i t.node t.at n.1 other c.0 f differ n.2 entry t.node_is t.entry_is (sym (ap (λ (p : Command). p.0) c.2) ∙ same) in (
          sym (ap (λ (p : List ℕ × Node). p.0) one.0) ∙ n.4,
          ap (λ (p : Command). p.1) c.2 ∙ ap (λ (m : Node). source m.text c.0.range) (sym n.3)
              ∙ ap (λ (x : Entry). source n.1.1.text x.range) one.1 ∙ ap (λ (p : List ℕ × Node). source p.1.text f.range) one.0,
        )

    go : IsNewOr next (before_in tip pair.0) (e.command, source pair.1.text e.range)
        → (other.0 ≡ pair.0) × (source pair.1.text e.range ≡ source other.1.text f.range)
    go (inl new) = absurd (omega (arith, same, under, new))
    go (inr (i, at)) = old i (found in_order pair.0 tip) refl at
