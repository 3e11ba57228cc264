-- How deep the marks of a body stand.
use Rattle.std.proofs.Common.{◌≡◌, ℕ, ◌+◌, ◌-◌, ◌<◌, ◌≤◌, max, List, [], ◌∷◌, ◌++◌, map, refl, sym, subst, ap, ◌∙◌, append_assoc, arith}
use Rattle.yxml.specs.declared.tree.Tree.{Tree}
use Rattle.yxml.specs.declared.tree.Tree.TheOpen.{Tree-F}
use Rattle.yxml.specs.declared.tree.Tree.TheFolds.{fold-roll-Tree, ind-Tree, map-Tree}
use Rattle.yxml.specs.Bodies.{ClosesOpen}
use Rattle.yxml.specs.Marks.{Mark, opening, closing, words, marks, tree_marks, mark_step, concat, open_after}
use Rattle.yxml.specs.Normal.{height, tree_height, height_step, largest, most_nested}

-- no element opens where the most are open, and none closes where none is open
abbrev pub IsWithin : ℕ → List Mark → Type 0
IsWithin d [] = Unit {0}
IsWithin d (opening name attributes ∷ ms) = (d < most_nested) × IsWithin (d + 1) ms
IsWithin d (closing ∷ ms) = (0 < d) × IsWithin (d - 1) ms
IsWithin d (words text ∷ ms) = IsWithin d ms

-- what the marks of a tree mean for what follows them
pub record Nests (ms : List Mark) (high : ℕ) : Type 0 where
  pub balanced : (d : ℕ) (rest : List Mark) → open_after d (ms ++ rest) ≡ open_after d rest
  pub within : (d : ℕ) (rest : List Mark) → d + high ≤ most_nested → IsWithin d rest → IsWithin d (ms ++ rest)
  pub low : (d : ℕ) (rest : List Mark) → IsWithin d (ms ++ rest) → d ≤ most_nested → d + high ≤ most_nested
  pub later : (d : ℕ) (rest : List Mark) → IsWithin d (ms ++ rest) → IsWithin d rest

abbrev pub TreeNests : Tree → Type 0
TreeNests t = Nests (tree_marks t) (tree_height t)

Nests-none : Nests [] 0
Nests-none = record {
  balanced = λ d rest. refl;
  within = λ d rest small w. w;
  low = λ d rest w small. omega arith;
  later = λ d rest w. w;
}

Nests-append : (xs ys : List Mark) (h k : ℕ) → Nests xs h → Nests ys k → Nests (xs ++ ys) (max h k)
Nests-append xs ys h k p q = record {
  balanced = λ d rest. rw append_assoc (p.balanced d (ys ++ rest) ∙ q.balanced d rest);
  within = λ d rest small w. rw append_assoc (p.within d (ys ++ rest) (omega arith) (q.within d rest (omega arith) w));
  low = λ d rest w small. let w' : IsWithin d (xs ++ (ys ++ rest)) = rw append_assoc at w in
      omega (arith, p.low d (ys ++ rest) w' small, q.low d rest (p.later d (ys ++ rest) w') small);
  later = λ d rest w. let w' : IsWithin d (xs ++ (ys ++ rest)) = rw append_assoc at w in
      q.later d rest (p.later d (ys ++ rest) w');
}

-- one more element behind d and one less is d again
back : (d : ℕ) → (d + 1) - 1 ≡ d
back d = omega arith

Nests-element : (name : List ℕ) (attributes : List _) (xs : List Mark) (h : ℕ) → Nests xs h → Nests (opening name attributes ∷ (xs ++ closing ∷ [])) (1 + h)
Nests-element name attributes xs h p = record {
  balanced = λ d rest. rw append_assoc (p.balanced (d + 1) (closing ∷ rest) ∙ ap (λ n. open_after n rest) (back d));
  within = λ d rest small w. (omega arith, subst (IsWithin (d + 1)) (sym (append_assoc xs (closing ∷ []) rest)) (p.within (d + 1) (closing ∷ rest) (omega arith) (omega arith, subst (λ n. IsWithin n rest) (sym (back d)) w)));
  low = λ d rest w small. let w' : IsWithin (d + 1) (xs ++ (closing ∷ rest)) = subst (IsWithin (d + 1)) (append_assoc xs (closing ∷ []) rest) w.1 in
      let first : d < most_nested = w.0 in
      omega (arith, p.low (d + 1) (closing ∷ rest) w' (omega arith));
  later = λ d rest w. let w' : IsWithin (d + 1) (xs ++ (closing ∷ rest)) = subst (IsWithin (d + 1)) (append_assoc xs (closing ∷ []) rest) w.1 in
      subst (λ n. IsWithin n rest) (back d) (p.later (d + 1) (closing ∷ rest) w').1;
}

Nests-text : (text : List ℕ) → Nests (words text ∷ []) 0
Nests-text text = record {
  balanced = λ d rest. refl;
  within = λ d rest small w. w;
  low = λ d rest w small. omega arith;
  later = λ d rest w. w;
}

Nests-body : (ts : List ((t : Tree) × TreeNests t)) → Nests (concat (map tree_marks (map (λ e. e.0) ts))) (largest (map tree_height (map (λ e. e.0) ts)))
Nests-body [] = Nests-none
Nests-body (e ∷ ts) = Nests-append _ _ _ _ e.1 (Nests-body ts)

Nests-layer : (y : Tree-F ((t : Tree) × TreeNests t)) → Nests (mark_step (map-Tree Tree (List Mark) tree_marks (map-Tree _ Tree (λ e. e.0) y)))
    (height_step (map-Tree Tree ℕ tree_height (map-Tree _ Tree (λ e. e.0) y)))
Nests-layer (Tree-F.Elem name attributes body) = Nests-element name attributes _ _ (Nests-body body)
Nests-layer (Tree-F.Text text) = Nests-text text

pub Nests-tree : (t : Tree) → TreeNests t
Nests-tree = ind-Tree TreeNests (λ x y is.
    rw (fold-roll-Tree (List Mark) mark_step x, fold-roll-Tree ℕ height_step x)
    (subst (λ z. Nests (mark_step (map-Tree Tree (List Mark) tree_marks z)) (height_step (map-Tree Tree ℕ tree_height z))) is (Nests-layer y)))

-- the same of a body
pub Nests-trees : (ts : List Tree) → Nests (marks ts) (height ts)
Nests-trees [] = Nests-none
Nests-trees (t ∷ ts) = Nests-append _ _ _ _ (Nests-tree t) (Nests-trees ts)

-- where no element opens too deep, none closes where none is open
pub within-closes : (d : ℕ) (ms : List Mark) → IsWithin d ms → ClosesOpen d ms
within-closes d [] w = tt
within-closes d (opening name attributes ∷ ms) w = within-closes (d + 1) ms w.1
within-closes d (closing ∷ ms) w = (w.0, within-closes (d - 1) ms w.1)
within-closes d (words text ∷ ms) w = within-closes d ms w
