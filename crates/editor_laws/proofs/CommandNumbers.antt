-- Where the commands of an update's nodes begin, and that their numbers are positive.
use Rattle.std.proofs.Common.{◌≡◌, inl, inr, ℕ, ◌≤◌, List, [], ◌∷◌, Option, Some, None, refl, subst, arith}
use Rattle.std.specs.Prelude.{slice_get}
use Rattle.std.specs.Option.{option_map, option_and_then}
use Rattle.std.specs.List.{AllByRecursion}
use Rattle.text_words.proofs.KnownLists.{each-so}
use Rattle.doc_nodes.specs.declared.node.Entry.{Entry}
use Rattle.doc_nodes.specs.declared.node.Node.{Node}
use Rattle.doc_nodes.specs.Imports.{NodeList, place_of}
use Rattle.exec_rules.proofs.KnownThere.{all_at}
use Rattle.core_rules.specs.Doc.{Doc}
use Rattle.core_rules.specs.Updates.{AreRising, FitsNode, IsKnown, IsOld, node_in}
use Rattle.core_rules.proofs.KnownEnds.{ends_within}
use Rattle.editor_laws.proofs.ShownParts.{BeginBy}

-- the commands of nodes have numbers from 1 on
abbrev pub ArePositive : NodeList → Type 0
ArePositive nodes = AllByRecursion (λ pair. AllByRecursion
    (λ e. 1 ≤ e.command) pair.1.entries) nodes

-- commands that stand in a text begin in it
pub rising_begin : (from len k : ℕ) (es : List Entry) → len ≤ k → AreRising from len es
    → BeginBy k es
rising_begin from len k [] le is = tt
rising_begin from len k (e ∷ es) le is =
    let rest = ends_within e.range.stop len es is.2 in (
      omega (arith, is.1, rest, le),
      rising_begin e.range.stop len k es le is.2,
    )

old_positive : (d : Doc) (name : List ℕ) (old : Node) → ArePositive d.tip.nodes
    → node_in d.tip name ≡ Some old → AllByRecursion (λ e. 1 ≤ e.command) old.entries
old_positive d name old all is = go (place_of d.tip.nodes name) is
  where
    at : (p : ℕ) (o : Option (List ℕ × Node)) → slice_get d.tip.nodes p ≡ o
        → option_map (λ (pair : List ℕ × Node). pair.1) o ≡ Some old
        → AllByRecursion (λ e. 1 ≤ e.command) old.entries
    at p None there is = absurd (cc)
    at p (Some pair) there is =
        let same : pair.1 ≡ old = cc in
        subst (λ (n : Node). AllByRecursion (λ e. 1 ≤ e.command) n.entries) same
        (all_at (λ (x : List ℕ × Node). AllByRecursion (λ e. 1 ≤ e.command) x.1.entries) d.tip.nodes
        p pair all there)

    go : (o : Option ℕ) → option_map (λ (pair : List ℕ × Node). pair.1)
        (option_and_then (slice_get d.tip.nodes) o) ≡ Some old
        → AllByRecursion (λ e. 1 ≤ e.command) old.entries
    go None is = absurd (cc)
    go (Some p) is = at p (slice_get d.tip.nodes p) refl is

one_positive : (d : Doc) (pair : List ℕ × Node) (e : Entry) → ArePositive d.tip.nodes
    → IsKnown d pair e → 1 ≤ e.command
one_positive d pair e all (inl new) = omega (arith, new)
one_positive d pair e all (inr known) = go (node_in d.tip pair.0) refl known
  where
    go : (o : Option Node) → node_in d.tip pair.0 ≡ o → IsOld o pair.1 e → 1 ≤ e.command
    go None is known = absurd known
    go (Some old) is known =
        let before = all_at (λ (x : Entry). 1 ≤ x.command) old.entries known.place known.before
        (old_positive d pair.0 old all is) known.stood in
        let same = known.command in omega (arith, before, same)

-- the commands of the nodes of an update
pub nodes_positive : (d : Doc) (nodes : NodeList) → ArePositive d.tip.nodes
    → AllByRecursion (FitsNode d) nodes → ArePositive nodes
nodes_positive d nodes all fit = each-so (FitsNode d) (λ pair. AllByRecursion
    (λ e. 1 ≤ e.command) pair.1.entries)
    (λ pair f. each-so (IsKnown d pair) (λ e. 1 ≤ e.command)
    (λ e known. one_positive d pair e all known) pair.1.entries f.known) nodes fit
