-- A draft before any item, and what the nodes of a draft have in common with its sheets.
use Rattle.std.proofs.Common.{◌≡◌, ℕ, List, [], ◌∷◌, ◌++◌, Option, Some, None, refl, sym, ap, subst, ◌∙◌}
use Rattle.std.specs.List.{AllZip}
use Rattle.std.specs.Cmp.Lexicographic.{nat_list_cmp_total}
use Rattle.std.proofs.lemmas.List.{append_assoc}
use Rattle.shared_map.specs.Pairs.{IsSorted, found}
use Rattle.doc_nodes.specs.declared.node.Node.{Node}
use Rattle.doc_nodes.specs.Names.{in_order}
use Rattle.doc_nodes.specs.Imports.{NodeList}
use Rattle.doc_nodes.specs.Needs.{AliasList}
use Rattle.buffer_rules.specs.declared.sheet.Sheet.{Sheet}
use Rattle.buffer_rules.specs.Nodes.{uncut, uncut_all}
use Rattle.editor_buffer.specs.Standing.{OpenList, sheets_of, bare, bare_all, StandsUnder, Stands, DraftedUnder, Drafted, AreInForce, aliases_named}
use Rattle.editor_buffer.proofs.PairLists.{found_at}

under : (all : NodeList) (u : Option AliasList) (name : List ℕ) (sheet : Sheet) (node : Node) → StandsUnder u sheet node → found in_order name all ≡ Some node → u ≡ aliases_named all name
    → DraftedUnder all u name sheet node
under all None name sheet node is there named = absurd is
under all (Some aliases) name sheet node is there named = (is, there, sym named)

behind : (all front : NodeList) (os : OpenList) (ns : NodeList) → all ≡ front ++ ns → IsSorted in_order all → AllZip Stands os ns → AreInForce all os → AllZip (Drafted all) os ns
behind all front [] [] e sorted is named = tt
behind all front [] (n ∷ ns) e sorted is named = absurd is
behind all front (o ∷ os) [] e sorted is named = absurd is
behind all front (o ∷ os) (n ∷ ns) e sorted is named =
    let there : found in_order n.0 all ≡ Some n.1 =
    ap (found in_order n.0) e ∙ found_at nat_list_cmp_total front n ns (subst (IsSorted in_order) e sorted) in (
      (is.0.0, under all o.1.cut_under o.0 o.1.sheet n.1 is.0.1 (ap (λ name. found in_order name all) is.0.0 ∙ there) named.0),
      behind all (front ++ n ∷ []) os ns (e ∙ sym (append_assoc front (n ∷ []) ns)) sorted is.1 named.1,
    )

-- before any item each node is the version's
drafted_first : (opened : OpenList) (nodes : NodeList) → IsSorted in_order nodes → AllZip Stands opened nodes → AreInForce nodes opened → AllZip (Drafted nodes) opened nodes
drafted_first opened nodes sorted is named = behind nodes [] opened nodes refl sorted is named

-- nor in a copy of it
pub drafted_copied : (tip : NodeList) (opened os : OpenList) (nodes ns : NodeList) → nodes ≡ tip → os ≡ opened → ns ≡ nodes
    → IsSorted in_order nodes → AllZip Stands opened nodes → AreInForce nodes opened → AllZip (Drafted tip) os ns
drafted_copied tip opened os nodes ns same e f sorted is named =
    let first : AllZip (Drafted nodes) opened nodes = drafted_first opened nodes sorted is named in
    subst (λ all. AllZip (Drafted tip) os all) (sym f)
    (subst (λ all. AllZip (Drafted tip) all nodes) (sym e) (subst (λ t. AllZip (Drafted t) opened nodes) same first))

pub bare_under : (tip : NodeList) (u : Option AliasList) (name : List ℕ) (sheet : Sheet) (node : Node) → DraftedUnder tip u name sheet node → bare node ≡ uncut sheet
bare_under tip None name sheet node is = is
bare_under tip (Some aliases) name sheet node is = ap bare is.0.made

-- those that stand are the sheets' nodes, but for their commands
stands_bare : (u : Option AliasList) (sheet : Sheet) (node : Node) → StandsUnder u sheet node → bare node ≡ uncut sheet
stands_bare None sheet node is = absurd is
stands_bare (Some aliases) sheet node is = ap bare is.made

pub bare_standing : (os : OpenList) (ns : NodeList) → AllZip Stands os ns → bare_all ns ≡ uncut_all (sheets_of os)
bare_standing [] [] is = refl
bare_standing [] (n ∷ ns) is = absurd is
bare_standing (o ∷ os) [] is = absurd is
bare_standing (o ∷ os) (n ∷ ns) is =
    ap (λ name. let one : List ℕ × Node = (name, bare n.1) in one ∷ bare_all ns) (sym is.0.0)
    ∙ ap (λ node. let one : List ℕ × Node = (o.0, node) in one ∷ bare_all ns) (stands_bare o.1.cut_under o.1.sheet n.1 is.0.1)
    ∙ ap (λ all. (o.0, uncut o.1.sheet) ∷ all) (bare_standing os ns is.1)
