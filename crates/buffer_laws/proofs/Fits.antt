-- What an update prepares fits what the core asks of an update.
use Rattle.std.proofs.Common.{◌≡◌, ◌⊎◌, inl, inr, ℕ, ◌≤◌, List, [], ◌∷◌, length, map, Option, Some, None, refl, sym, ap, subst, ◌∙◌, ⊎_elim, arith}
use Rattle.std.specs.Prelude.{slice_get}
use Rattle.std.specs.List.{AllByRecursion}
use Rattle.std.specs.Option.{option_map_or}
use Rattle.pide_base.specs.Limits.{most_scalars}
use Rattle.shared_map.specs.Pairs.{found}
use Rattle.doc_nodes.specs.declared.node.Entry.{Entry}
use Rattle.doc_nodes.specs.declared.node.Node.{Node}
use Rattle.doc_nodes.specs.Names.{in_order}
use Rattle.doc_nodes.specs.Imports.{NodeList}
use Rattle.core_rules.specs.Doc.{Doc}
use Rattle.core_rules.specs.Updates.{AreRising, FitsNode, IsKnown, IsOld, KeepsHeader, Stood, node_in}
use Rattle.buffer_rules.specs.Cuts.{source, commands_of}
use Rattle.buffer_rules.specs.Nodes.{before_in}
use Rattle.buffer_rules.specs.Preparing.{Buffer}
use Rattle.buffer_laws.specs.Fitting.{Agrees}
use Rattle.buffer_laws.specs.Known.{AreKnown, HasOwnHeader, IsBare, IsNewOr, imports_told, keywords_told}
use Rattle.buffer_laws.proofs.FoundNodes.{node_found, command_at, first_place, IsNodeOf, found_node}

module _ (b : Buffer) where
  module _ (d : Doc) (agrees : Agrees b d) where
    node_of : (name : List ℕ) (old : Node) → node_in d.tip name ≡ Some old → IsNodeOf b old
    node_of name old e = found_node b b.nodes name old agrees.differ agrees.below agrees.headers
        (sym (node_found d.tip b.nodes name agrees.nodes) ∙ e)

    -- the tip's node had a command that the buffer's had
    old_by : (pair : List ℕ × Node) (o : Option Node) → node_in d.tip pair.0 ≡ o → (e : Entry)
        → (i : ℕ) → slice_get (before_in b.nodes pair.0) i ≡ Some (e.command, source pair.1.text e.range) → IsOld o pair.1 e
    old_by pair o is e i at = go o (sym is ∙ node_found d.tip b.nodes pair.0 agrees.nodes)
      where
        go : (o : Option Node) → o ≡ found in_order pair.0 b.nodes → IsOld o pair.1 e
        go None same =
            let none : slice_get (option_map_or commands_of None []) i ≡ Some (e.command, source pair.1.text e.range) =
            ap (λ x. slice_get (option_map_or commands_of x []) i) same ∙ at in absurd (cc)
        go (Some old) same =
            let some : slice_get (commands_of old) i ≡ Some (e.command, source pair.1.text e.range) =
            ap (λ x. slice_get (option_map_or commands_of x []) i) same ∙ at in
            let found_at = command_at old old.entries i (e.command, source pair.1.text e.range) some in
            record {
              place = i;
              before = found_at.0;
              stood = found_at.1;
              command = found_at.2;
              source = found_at.3;
            }

    -- a command is new, or the tip's node had it
    known_by : (pair : List ℕ × Node) (o : Option Node) → node_in d.tip pair.0 ≡ o → (e : Entry)
        → IsNewOr b.next (before_in b.nodes pair.0) (e.command, source pair.1.text e.range) → (b.next ≤ e.command) ⊎ IsOld o pair.1 e
    known_by pair o is e (inl new) = inl new
    known_by pair o is e (inr (i, at)) = inr (old_by pair o is e i at)

    all_known : (pair : List ℕ × Node) (es : List Entry)
        → AllByRecursion (IsNewOr b.next (before_in b.nodes pair.0)) (map (λ (e : Entry). (e.command, source pair.1.text e.range)) es)
        → AllByRecursion (IsKnown d pair) es
    all_known pair [] all = tt
    all_known pair (e ∷ es) all =
        (⊎_elim (λ new. inl (omega (arith, new, agrees.first))) (λ was. inr was) (known_by pair (node_in d.tip pair.0) refl e all.0), all_known pair es all.1)

    -- the same first command has the same header
    keeps : (pair : List ℕ × Node) → AllByRecursion (IsKnown d pair) pair.1.entries → HasOwnHeader pair.1 → (o : Option Node) → node_in d.tip pair.0 ≡ o
        → ((e : Entry) → slice_get pair.1.entries 0 ≡ Some e → (b.next ≤ e.command) ⊎ IsOld o pair.1 e) → KeepsHeader pair.1 o
    keeps pair known own None is origin = tt
    keeps pair known own (Some old) is origin = λ e x at first same. go e x at first same (origin e at)
      where
        go : (e x : Entry) → slice_get pair.1.entries 0 ≡ Some e → slice_get old.entries 0 ≡ Some x → e.command ≡ x.command
            → (b.next ≤ e.command) ⊎ Stood old pair.1 e → (pair.1.imports ≡ old.imports) × (pair.1.keywords ≡ old.keywords)
        go e x at first same (inl new) = let low = (node_of pair.0 old is).below 0 x first in absurd (omega (arith, new, low, same))
        go e x at first same (inr stood) =
            let node = node_of pair.0 old is in
            let one : stood.before ≡ x = first_place old.entries stood.place stood.before x node.differ stood.stood first (sym stood.command ∙ same) in
            let sources : source pair.1.text e.range ≡ source old.text x.range = stood.source ∙ ap (λ (y : Entry). source old.text y.range) one in
            let now = own e at in
            let was = node.header x first in
            (now.0 ∙ ap imports_told sources ∙ sym was.0, now.1 ∙ ap keywords_told sources ∙ sym was.1)

    -- where a node's command comes from
    origin_of : (pair : List ℕ × Node) (o : Option Node) → node_in d.tip pair.0 ≡ o
        → AllByRecursion (IsNewOr b.next (before_in b.nodes pair.0)) (commands_of pair.1)
        → (e : Entry) → slice_get pair.1.entries 0 ≡ Some e → (b.next ≤ e.command) ⊎ IsOld o pair.1 e
    origin_of pair o is all e at = go pair.1.entries all at
      where
        go : (es : List Entry) → AllByRecursion (IsNewOr b.next (before_in b.nodes pair.0)) (map (λ (x : Entry). (x.command, source pair.1.text x.range)) es)
            → slice_get es 0 ≡ Some e → (b.next ≤ e.command) ⊎ IsOld o pair.1 e
        go [] all at = absurd (cc)
        go (x ∷ es) all at = let same : x ≡ e = cc in subst (λ (y : Entry). (b.next ≤ y.command) ⊎ IsOld o pair.1 y) same (known_by pair o is x all.0)

    -- one node fits
    node_fits : (pair : List ℕ × Node) → AllByRecursion (IsNewOr b.next (before_in b.nodes pair.0)) (commands_of pair.1) → HasOwnHeader pair.1
        → AreRising 0 (length pair.1.text) pair.1.entries → IsBare pair.1 → length pair.1.text ≤ most_scalars → FitsNode d pair
    node_fits pair commands own rising bare short =
        let known = all_known pair pair.1.entries commands in
        record {
          text = short;
          commands = rising;
          known = known;
          header = keeps pair known own (node_in d.tip pair.0) refl (origin_of pair (node_in d.tip pair.0) refl commands);
          bare = bare;
        }

    pub all_fit : (nodes : NodeList) → AreKnown b.nodes b.next nodes → AllByRecursion (λ pair. HasOwnHeader pair.1) nodes
        → AllByRecursion (λ pair. AreRising 0 (length pair.1.text) pair.1.entries) nodes → AllByRecursion (λ pair. IsBare pair.1) nodes
        → AllByRecursion (λ pair. length pair.1.text ≤ most_scalars) nodes → AllByRecursion (FitsNode d) nodes
    all_fit [] known own rising bare short = tt
    all_fit (n ∷ ns) known own rising bare short =
        (node_fits n known.0 own.0 rising.0 bare.0 short.0, all_fit ns known.1 own.1 rising.1 bare.1 short.1)
