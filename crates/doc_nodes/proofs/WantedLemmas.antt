-- What is reached, by marks.
use Rattle.std.proofs.Common.{◌≡◌, ℕ, suc, ◌-◌, ◌<◌, ◌≤◌, eqb, eq-eqb, Bool, true, false, not, ◌&&◌, ◌||◌, cond, List, [], ◌∷◌, ◌++◌, length, get_or, drop, Option, refl, sym, ap, subst, ◌∙◌, arith}
use Rattle.std.proofs.lemmas.List.{length-map}
use Rattle.doc_nodes.specs.declared.node.Node.{Node}
use Rattle.std.proofs.Math.Seq.{drop-cons}
use Rattle.std.proofs.lemmas.List.Folds.{list_any-append, list_any_at}
use Rattle.text_words.specs.Members.{has}
use Rattle.doc_nodes.specs.Looks.{marked, aims_at}
use Rattle.doc_nodes.proofs.KnownFiltered.{filtered_within}
use Rattle.doc_nodes.proofs.KnownRounds.{is_order}
use Rattle.doc_nodes.specs.Imports.{NodeList, aims, aims_of, ordered_places, is_ordered, other_places, order}
use Rattle.doc_nodes.specs.Wanted.{is_at, is_aimed, wants, hands_on, reached}
use Rattle.doc_nodes.specs.Reach.{AreReached}

-- an ordered place is a node's
pub placed_within : (nodes : NodeList) (p : ℕ) → is_ordered nodes p ≡ true → p < length nodes
placed_within nodes p h = omega (arith, (is_order (aims nodes)).within p h, length-map nodes (λ (pair : List ℕ × Node). aims_of nodes pair.1))

-- and each place in the order of imports is
pub order_within : (nodes : NodeList) (i : ℕ) → i < length (order nodes) → get_or (order nodes) i 0 < length nodes
order_within nodes i lt = go (has (ordered_places nodes) p) refl (sym (list_any-append (eqb p) (ordered_places nodes) (other_places nodes)) ∙ list_any_at (λ q. eqb p q) (order nodes) i 0 lt (eq-eqb p p refl))
  where
    p : ℕ
    p = get_or (order nodes) i 0

    go : (b : Bool) → has (ordered_places nodes) p ≡ b → (has (ordered_places nodes) p || has (other_places nodes) p) ≡ true → p < length nodes
    go true e h = placed_within nodes p e
    go false e h = filtered_within (λ q. not (is_ordered nodes q)) (length nodes) p (ap (λ b. b || has (other_places nodes) p) (sym e) ∙ h)

pub hands_on_marked : (nodes : NodeList) (marks : List Bool) (reached : List (Option ℕ)) (p : ℕ) → AreReached nodes marks reached
    → is_ordered nodes p ≡ true → wants nodes p ≡ false → marked marks p ≡ hands_on nodes reached p
hands_on_marked nodes marks reached p are ordered idle =
    are.marks_are p (placed_within nodes p ordered)
    ∙ ap (λ b. b || is_aimed reached p) (sym idle)
    ∙ ap (λ b. b && (wants nodes p || is_aimed reached p)) (sym ordered)

module _ (nodes : NodeList) (order : List ℕ) (at : ℕ) (some : 0 < at) (within : at ≤ length order) where
  abbrev pub here : ℕ
  here = get_or order (at - 1) 0

  abbrev pub later : List (Option ℕ)
  later = reached nodes (drop at order)

  one_more : reached nodes (drop (at - 1) order) ≡ cond (hands_on nodes later here) (aims_at (aims nodes) here) [] ++ later
  one_more =
      let lt : at - 1 < length order = omega arith in
      let next : suc (at - 1) ≡ at = omega arith in
      ap (reached nodes) (drop-cons order (at - 1) 0 lt ∙ ap (λ n. here ∷ drop n order) next)

  pub reached_yes : (marks new : List Bool) → AreReached nodes marks later → hands_on nodes later here ≡ true → length new ≡ length marks
      → ((q : ℕ) → q < length marks → marked new q ≡ (is_aimed (aims_at (aims nodes) here) q || marked marks q))
      → AreReached nodes new (reached nodes (drop (at - 1) order))
  reached_yes marks new are yields len more = record {
    as_many = len ∙ are.as_many;
    marks_are = λ q lt.
        let within_marks : q < length marks = omega (arith, are.as_many) in
        more q within_marks
        ∙ ap (λ b. is_aimed (aims_at (aims nodes) here) q || b) (are.marks_are q lt)
        ∙ sym (list_any-append (is_at q) (aims_at (aims nodes) here) later)
        ∙ ap (λ b. is_aimed (cond b (aims_at (aims nodes) here) [] ++ later) q) (sym yields)
        ∙ ap (λ (xs : List (Option ℕ)). is_aimed xs q) (sym one_more);
  }

  pub reached_no : (marks : List Bool) → AreReached nodes marks later → hands_on nodes later here ≡ false
      → AreReached nodes marks (reached nodes (drop (at - 1) order))
  reached_no marks are idle =
      subst (AreReached nodes marks) (ap (λ b. cond b (aims_at (aims nodes) here) [] ++ later) (sym idle) ∙ sym one_more) are
