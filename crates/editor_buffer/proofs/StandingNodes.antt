-- Nodes of a version by what the editor has of them.
use Rattle.std.proofs.Common.{◌≡◌, ℕ, Bool, true, false, cond, List, [], ◌∷◌, Option, Some, None, refl, ap, subst}
use Rattle.std.specs.Prelude.{find}
use Rattle.std.specs.Option.{option_map, option_and_then}
use Rattle.std.specs.List.{AllZip}
use Rattle.std.specs.Ordering.{is_eq}
use Rattle.shared_map.specs.Pairs.{has_key, found}
use Rattle.doc_nodes.specs.declared.node.Node.{Node}
use Rattle.doc_nodes.specs.Names.{in_order}
use Rattle.doc_nodes.specs.Imports.{NodeList}
use Rattle.doc_nodes.specs.Needs.{AliasList}
use Rattle.editor_buffer.specs.Commands.{AskUnder}
use Rattle.editor_buffer.specs.OpenSheet.{OpenSheet}
use Rattle.editor_buffer.specs.Standing.{OpenList, StandsUnder, Stands}
use Rattle.editor_buffer.proofs.CutLemmas.{asked_cut}

-- what stands under a name stands to what the editor has of it
stands_at : (name : List ℕ) (os : OpenList) (ns : NodeList) (o : OpenSheet) (n : Node) → AllZip Stands os ns
    → found in_order name os ≡ Some o → found in_order name ns ≡ Some n → StandsUnder o.cut_under o.sheet n
stands_at name [] [] o n all e f = absurd (cc)
stands_at name [] (y ∷ ns) o n all e f = absurd all
stands_at name (x ∷ os) [] o n all e f = absurd all
stands_at name (x ∷ os) (y ∷ ns) o n all e f =
    go (is_eq (in_order x.0 name)) (is_eq (in_order y.0 name)) (ap (λ k. is_eq (in_order k name)) all.0.0) (λ g h. stands_at name os ns o n all.1 g h) e f
  where
    go : (b c : Bool) → b ≡ c → (found in_order name os ≡ Some o → found in_order name ns ≡ Some n → StandsUnder o.cut_under o.sheet n)
        → option_map (λ (p : List ℕ × OpenSheet). p.1) (cond b (Some x) (find (has_key in_order name) os)) ≡ Some o
        → option_map (λ (p : List ℕ × Node). p.1) (cond c (Some y) (find (has_key in_order name) ns)) ≡ Some n
        → StandsUnder o.cut_under o.sheet n
    go true true same rest g h =
        let one : x.1 ≡ o = cc in
        let other : y.1 ≡ n = cc in
        subst (λ (q : OpenSheet). StandsUnder q.cut_under q.sheet n) one (subst (λ (m : Node). StandsUnder x.1.cut_under x.1.sheet m) other all.0.1)
    go true false same rest g h = absurd (cc)
    go false true same rest g h = absurd (cc)
    go false false same rest g h = rest g h

-- commands that were cut under aliases ask for the blobs that they ask for under these
pub asked_so : (opened : OpenList) (nodes : NodeList) (name : List ℕ) (aliases : AliasList) (node : Node) → AllZip Stands opened nodes
    → option_and_then (λ (o : OpenSheet). o.cut_under) (found in_order name opened) ≡ Some aliases → found in_order name nodes ≡ Some node
    → AskUnder aliases node.text node.entries
asked_so opened nodes name aliases node all under there = go (found in_order name opened) refl under where
  go : (f : Option OpenSheet) → found in_order name opened ≡ f → option_and_then (λ (o : OpenSheet). o.cut_under) f ≡ Some aliases
      → AskUnder aliases node.text node.entries
  go None e u = absurd (cc)
  go (Some o) e u = asked_cut o.sheet aliases node (subst (λ v. StandsUnder v o.sheet node) u (stands_at name opened nodes o node all e there))
