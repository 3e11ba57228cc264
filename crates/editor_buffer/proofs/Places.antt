-- The place of a name among sheets in order.
use Rattle.std.proofs.Common.{◌≡◌, ℕ, ◌+◌, ltb, lt-ltb, not, cond, List, [], ◌∷◌, ◌++◌, length, Some, None, refl, ap, ◌∙◌, arith}
use Rattle.std.specs.List.{position_or_len}
use Rattle.std.specs.Cmp.Lexicographic.{nat_list_cmp_total}
use Rattle.std.specs.Ordering.{is_eq}
use Rattle.std.specs.declared.cmp.Ordering.TheVariants.{Less}
use Rattle.std.proofs.lemmas.Cmp.{tied_itself}
use Rattle.std.proofs.lemmas.List.{length-map, length-append}
use Rattle.shared_map.specs.Pairs.{Each, IsSorted}
use Rattle.shared_map.proofs.KnownSorted.{fork_of}
use Rattle.doc_nodes.specs.declared.node.Node.{Node}
use Rattle.doc_nodes.specs.Names.{in_order, equal}
use Rattle.doc_nodes.specs.Imports.{place_of}
use Rattle.buffer_rules.specs.declared.sheet.Sheet.{Sheet}
use Rattle.buffer_rules.specs.Nodes.{uncut, uncut_all}
use Rattle.editor_buffer.specs.OpenSheet.{OpenSheet}
use Rattle.editor_buffer.specs.Standing.{OpenList, sheets_of}

module _ {X : Type 0} (P : X → Type 0) where
  pub each_append : (xs ys : List X) → Each P xs → Each P ys → Each P (xs ++ ys)
  each_append [] ys all more = more
  each_append (x ∷ xs) ys all more = (all.0, each_append xs ys all.1 more)

  pub each_along : (Q : X → Type 0) → ((x : X) → P x → Q x) → (xs : List X) → Each P xs → Each Q xs
  each_along Q so [] all = tt
  each_along Q so (x ∷ xs) all = (so x all.0, each_along Q so xs all.1)

len_at : (l : OpenList) (x : List ℕ × OpenSheet) (r : OpenList) → Each (λ p. in_order p.0 x.0 ≡ Less) l
    → position_or_len (λ (pair : List ℕ × Node). equal pair.0 x.0) (uncut_all (sheets_of (l ++ x ∷ r))) ≡ length l
len_at [] x r all = ap (λ o. cond (not (is_eq o)) (1 + position_or_len (λ (pair : List ℕ × Node). equal pair.0 x.0) (uncut_all (sheets_of r))) 0) (tied_itself nat_list_cmp_total x.0)
len_at (y ∷ l) x r all =
    ap (λ o. cond (not (is_eq o)) (1 + position_or_len (λ (pair : List ℕ × Node). equal pair.0 x.0) (uncut_all (sheets_of (l ++ x ∷ r)))) 0) all.0
    ∙ ap (λ k. 1 + k) (len_at l x r all.1) ∙ (omega arith)

pub place_at : (l : OpenList) (x : List ℕ × OpenSheet) (r : OpenList) → IsSorted in_order (l ++ x ∷ r) → place_of (uncut_all (sheets_of (l ++ x ∷ r))) x.0 ≡ Some (length l)
place_at l x r sorted =
    let all = l ++ x ∷ r in
    let found = len_at l x r (fork_of in_order all l x r refl sorted).smaller in
    let count : length (uncut_all (sheets_of all)) ≡ length all =
    length-map (sheets_of all) (λ (p : List ℕ × Sheet). (p.0, uncut p.1)) ∙ length-map all (λ (p : List ℕ × OpenSheet). (p.0, p.1.sheet)) in
    ap (λ k. cond (ltb k (length (uncut_all (sheets_of all)))) (Some k) None) found
    ∙ ap (λ b. cond b (Some (length l)) None) (lt-ltb (length l) (length (uncut_all (sheets_of all))) (omega (arith, count, length-append l (x ∷ r))))
