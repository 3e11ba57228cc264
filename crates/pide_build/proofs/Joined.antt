-- The rounds, joined, are the order, and each is the round after those before it.
use Rattle.std.proofs.Common.{◌≡◌, ℕ, zero, suc, Bool, true, false, not, List, [], ◌∷◌, ◌++◌, length, Option, refl, sym, ap, subst, ◌∙◌, append_assoc, append-nil, ◌⊎◌, inl, inr, arith}
use mathlib.Core.Bool.{false≢true}
use Rattle.std.specs.List.{concat, list_all}
use Rattle.std.proofs.lemmas.List.Folds.{concat-append}
use Rattle.text_words.specs.Members.{has}
use Rattle.doc_nodes.specs.Rounds.{is_known, round, after_rounds, in_rounds}
use Rattle.doc_nodes.specs.Looks.{aims_at}
use Rattle.doc_nodes.proofs.KnownRounds.{cut}
use Rattle.doc_nodes.proofs.KnownOrdered.{stuck}
use Rattle.doc_nodes.proofs.KnownFiltered.{has_passes}
use Rattle.doc_nodes.specs.Imports.{NodeList, aims, is_ordered, order, other_places}
use Rattle.pide_build.specs.Batches.{AreBatches, AreRounds}
use Rattle.pide_build.proofs.Rounds.{fit, no_more}

module _ (rows : List (List (Option ℕ))) where
  joined_from : (rounds : List (List ℕ)) (n : ℕ) (ordered : List ℕ) → AreRounds rows ordered rounds
      → round rows (after_rounds rows n ordered) ≡ [] → after_rounds rows n ordered ≡ ordered ++ concat rounds
  joined_from [] n ordered are none = stuck rows n ordered are ∙ sym (append-nil ordered)
  joined_from (now ∷ later) zero ordered are none =
      let same : length now ≡ 0 = ap length (are.0 ∙ none) in let some = are.1 in absurd (omega arith)
  joined_from (now ∷ later) (suc n) ordered are none =
      let is : after_rounds rows n (ordered ++ now) ≡ after_rounds rows n (ordered ++ round rows ordered) = ap (λ r. after_rounds rows n (ordered ++ r)) are.0 in
      sym is ∙ joined_from later n (ordered ++ now) are.2 (ap (round rows) is ∙ none) ∙ append_assoc ordered now (concat later)

  joined : (rounds : List (List ℕ)) → AreRounds rows [] rounds → concat rounds ≡ in_rounds rows
  joined rounds are = sym (joined_from rounds (length rows) [] are (no_more rows))

  round_after : (front : List (List ℕ)) (now : List ℕ) (later : List (List ℕ)) (ordered : List ℕ)
      → AreRounds rows ordered (front ++ now ∷ later) → now ≡ round rows (ordered ++ concat front)
  round_after [] now later ordered are = are.0 ∙ ap (round rows) (sym (append-nil ordered))
  round_after (f ∷ front) now later ordered are =
      round_after front now later (ordered ++ f) are.2 ∙ ap (round rows) (append_assoc ordered f (concat front))

module _ (nodes : NodeList) where
  pub joins : (batches : List (List ℕ)) → AreBatches nodes batches → concat batches ≡ order nodes
  joins batches are =
      ap concat are.all ∙ concat-append are.rounds (other_places nodes ∷ []) ∙ ap (λ xs. xs ++ (other_places nodes ++ [])) (joined (aims nodes) are.rounds are.are)
      ∙ ap (λ xs. in_rounds (aims nodes) ++ xs) (append-nil (other_places nodes))

  pub unordered : (p : ℕ) → has (other_places nodes) p ≡ true → is_ordered nodes p ≡ false
  unordered p h = by (is_ordered nodes p) (has_passes (λ q. not (is_ordered nodes q)) (length nodes) 0 p h)
    where
      by : (b : Bool) → not b ≡ true → b ≡ false
      by true e = absurd (false≢true e)
      by false e = refl

  pub before : (front rest : List (List ℕ)) (batch : List ℕ) (p : ℕ) → AreBatches nodes (front ++ batch ∷ rest) → has batch p ≡ true
      → is_ordered nodes p ≡ true → list_all (is_known (concat front)) (aims_at (aims nodes) p) ≡ true
  before front rest batch p are here ordered = go
      (cut are.rounds (other_places nodes ∷ []) front batch rest (sym are.all))
    where
      last : (f : List (List ℕ)) → other_places nodes ∷ [] ≡ f ++ batch ∷ rest
          → batch ≡ other_places nodes
      last [] e = cc
      last (x ∷ []) e = let none : ⊥ = cc in absurd none
      last (x ∷ y ∷ f) e = let none : ⊥ = cc in absurd none

      go : ((r : List (List ℕ)) × (are.rounds ≡ front ++ batch ∷ r))
          ⊎ ((f : List (List ℕ)) × (front ≡ are.rounds ++ f) ×
          (other_places nodes ∷ [] ≡ f ++ batch ∷ rest))
          → list_all (is_known (concat front)) (aims_at (aims nodes) p) ≡ true
      go (inl c) =
          let is = round_after (aims nodes) front batch c.0 [] (subst (AreRounds (aims nodes) []) c.1 are.are) in
          fit (aims nodes) (concat front) p (ap (λ xs. has xs p) (sym is) ∙ here)
      go (inr c) = absurd (false≢true (sym (unordered p (ap (λ xs. has xs p) (sym (last c.0 c.2)) ∙ here)) ∙ ordered))
