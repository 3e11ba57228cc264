-- A body is told by its marks: it is built from them.
use Rattle.std.proofs.Common.{◌≡◌, ℕ, List, [], ◌∷◌, ◌++◌, map, refl, sym, subst, ap, ◌∙◌, append_assoc, append-nil}
use Rattle.yxml.specs.declared.tree.Attribute.{Attribute}
use Rattle.yxml.specs.declared.tree.Tree.{Tree}
use Rattle.yxml.specs.declared.tree.Tree.TheVariants.{Elem, Text, rolls-Elem, rolls-Text}
use Rattle.yxml.specs.declared.tree.Tree.TheOpen.{Tree-F}
use Rattle.yxml.specs.declared.tree.Tree.TheFolds.{fold-roll-Tree, ind-Tree, map-Tree}
use Rattle.yxml.specs.declared.tree.Tree.TheViews.{roll-Tree}
use Rattle.yxml.specs.Bodies.{OpenElement, built_body, body_of}
use Rattle.yxml.specs.Marks.{Mark, opening, closing, words, marks, tree_marks, mark_step, concat}

record Builds (ms : List Mark) (trees : List Tree) : Type 0 where
  builds : (rest : List Mark) (body : List Tree) (stack : List OpenElement) → built_body (ms ++ rest) body stack ≡ built_body rest (body ++ trees) stack

Builds-append : (xs ys : List Mark) (ts us : List Tree) → Builds xs ts → Builds ys us → Builds (xs ++ ys) (ts ++ us)
Builds-append xs ys ts us p q = record {
  builds = λ rest body stack.
      ap (λ ms. built_body ms body stack) (append_assoc xs ys rest) ∙ p.builds (ys ++ rest) body stack ∙ q.builds rest (body ++ ts) stack
      ∙ ap (λ b. built_body rest b stack) (append_assoc body ts us);
}

Builds-element : (name : List ℕ) (attributes : List Attribute) (xs : List Mark) (ts : List Tree) → Builds xs ts → Builds (opening name attributes ∷ (xs ++ closing ∷ [])) (Elem name attributes ts ∷ [])
Builds-element name attributes xs ts p = record {
  builds = λ rest body stack.
      let stack' : List OpenElement = record { before = body; name = name; attributes = attributes } ∷ stack in
      ap (λ ms. built_body ms [] stack') (append_assoc xs (closing ∷ []) rest) ∙ p.builds
      (closing ∷ rest) [] stack';
}

Builds-text : (text : List ℕ) → Builds (words text ∷ []) (Text text ∷ [])
Builds-text text = record { builds = λ rest body stack. refl }

abbrev TreeBuilds : Tree → Type 0
TreeBuilds t = Builds (tree_marks t) (t ∷ [])

Builds-body : (ts : List ((t : Tree) × TreeBuilds t)) → Builds (concat (map tree_marks (map (λ e. e.0) ts))) (map (λ e. e.0) ts)
Builds-body [] = record {
  builds = λ rest body stack. ap (λ b. built_body rest b stack) (sym
      (append-nil body));
}
Builds-body (e ∷ ts) = Builds-append _ _ (e.0 ∷ []) _ e.1 (Builds-body ts)

Builds-same : (ms : List Mark) (t u : Tree) → t ≡ u → Builds ms (u ∷ []) → Builds ms (t ∷ [])
Builds-same ms t u e b = subst (λ v. Builds ms (v ∷ [])) (sym e) b

Builds-layer : (y : Tree-F ((t : Tree) × TreeBuilds t)) → Builds (mark_step (map-Tree Tree (List Mark) tree_marks (map-Tree _ Tree (λ e. e.0) y))) (roll-Tree (map-Tree _ Tree (λ e. e.0) y) ∷ [])
Builds-layer (Tree-F.Elem name attributes body) = Builds-same _ _ _ (rolls-Elem _ _ _) (Builds-element name attributes _ _ (Builds-body body))
Builds-layer (Tree-F.Text text) = Builds-same _ _ _ (rolls-Text _) (Builds-text text)

Builds-tree : (t : Tree) → TreeBuilds t
Builds-tree = ind-Tree TreeBuilds (λ x y is.
    rw (fold-roll-Tree (List Mark) mark_step x)
    (subst (λ z. Builds (mark_step (map-Tree Tree (List Mark) tree_marks z)) (roll-Tree z ∷ [])) is (Builds-layer y)))

Builds-trees : (ts : List Tree) → Builds (marks ts) ts
Builds-trees [] = Builds-body []
Builds-trees (t ∷ ts) = Builds-append _ _ (t ∷ []) _ (Builds-tree t) (Builds-trees ts)

-- a body is the one that its marks make
pub rebuilt : (ts : List Tree) → body_of (marks ts) ≡ ts
rebuilt ts = ap (λ ms. built_body ms [] []) (sym (append-nil (marks ts))) ∙
    (Builds-trees ts).builds [] [] []

pub same_from_marks : (ts us : List Tree) → marks ts ≡ marks us → ts ≡ us
same_from_marks ts us e = sym (rebuilt ts) ∙ ap body_of e ∙ rebuilt us
