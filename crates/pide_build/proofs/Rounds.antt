-- The next round is what stands first of what is left of the order.
use Rattle.std.proofs.Common.{◌≡◌, ℕ, zero, suc, ◌<◌, Bool, true, false, not, ◌&&◌, ◌||◌, List, [], ◌∷◌, ◌++◌, length, Option, refl, sym, ap, subst, ◌∙◌, append_assoc, append-nil, length-append, arith}
use mathlib.Core.Bool.{false≢true}
use Rattle.std.specs.List.{list_all}
use Rattle.std.proofs.lemmas.List.{append_cancel_left}
use Rattle.text_words.specs.Members.{has}
use Rattle.doc_nodes.specs.Rounds.{is_known, is_next, round, after_rounds, in_rounds}
use Rattle.doc_nodes.specs.Looks.{aims_at}
use Rattle.doc_nodes.proofs.KnownRounds.{is_order, left_of, passes, right_of}
use Rattle.doc_nodes.proofs.KnownOrdered.{all_ordered, stuck}
use Rattle.text_words.proofs.KnownMembers.{has_both, has_itself, has_middle}
use Rattle.doc_nodes.proofs.KnownFiltered.{filtered_has, filtered_within}

-- a list isn't longer than itself
no_longer : (xs ys : List ℕ) (p : ℕ) → xs ≡ xs ++ p ∷ ys → ⊥
no_longer xs ys p e = let l = ap length e in let m = length-append xs (p ∷ ys) in omega arith

module _ (rows : List (List (Option ℕ))) where
  begins_with : (n : ℕ) (ordered : List ℕ) → (more : List ℕ) × (after_rounds rows n ordered ≡ ordered ++ more)
  begins_with zero ordered = ([], sym (append-nil ordered))
  begins_with (suc n) ordered =
      let r = begins_with n (ordered ++ round rows ordered) in
      (round rows ordered ++ r.0, r.1 ∙ append_assoc ordered (round rows ordered) r.0)

  -- so many more rounds after these ordered nodes are the whole order, of which these are left
  pub record Stands (front left : List ℕ) : Type 0 where
    pub more : ℕ
    pub after : after_rounds rows more front ≡ in_rounds rows
    pub whole : front ++ left ≡ in_rounds rows

  pub begins : Stands [] (in_rounds rows)
  begins = record { more = length rows; after = refl; whole = refl }

  -- the round is what comes next
  pub record IsNext (front left later : List ℕ) : Type 0 where
    pub cut : left ≡ round rows front ++ later
    pub some : 0 < length (round rows front)
    pub stands : Stands (front ++ round rows front) later

  pub next : (front : List ℕ) (p : ℕ) (left : List ℕ) → Stands front (p ∷ left) → (later : List ℕ) × IsNext front (p ∷ left) later
  next front p left s = by_more s.more s.after
    where
      by_round : (n : ℕ) (now : List ℕ) → round rows front ≡ now → after_rounds rows (suc n) front ≡ in_rounds rows
          → (later : List ℕ) × IsNext front (p ∷ left) later
      by_round n [] e after = absurd (no_longer front left p (sym (stuck rows (suc n) front e) ∙ after ∙ sym s.whole))
      by_round n (y ∷ ys) e after =
          let r = begins_with n (front ++ round rows front) in
          let all = s.whole ∙ sym after ∙ r.1 ∙ append_assoc front (round rows front) r.0 in
          let long : length (round rows front) ≡ length (y ∷ ys) = ap length e in (
            r.0,
            record {
              cut = append_cancel_left front (p ∷ left) (round rows front ++ r.0) all;
              some = omega arith;
              stands = record { more = n; after = after; whole = sym r.1 ∙ after };
            },
          )

      by_more : (n : ℕ) → after_rounds rows n front ≡ in_rounds rows → (later : List ℕ) × IsNext front (p ∷ left) later
      by_more zero after = absurd (no_longer front left p (after ∙ sym s.whole))
      by_more (suc n) after = by_round n (round rows front) refl after

  -- all imports of a round's nodes are ordered
  pub fit : (front : List ℕ) (q : ℕ) → has (round rows front) q ≡ true → list_all (is_known front) (aims_at rows q) ≡ true
  fit front q h = right_of (has front q) (list_all (is_known front) (aims_at rows q)) (passes rows front q h)

  -- those of another node, neither ordered nor of the round, are not
  pub unfit : (front : List ℕ) (q : ℕ) → q < length rows → has (front ++ round rows front) q ≡ false
      → list_all (is_known front) (aims_at rows q) ≡ false
  unfit front q within none = go (list_all (is_known front) (aims_at rows q)) refl
    where
      neither : (a b : Bool) → (a || b) ≡ false → (a ≡ false) × (b ≡ false)
      neither true b e = absurd (false≢true (sym e))
      neither false b e = (refl, e)

      go : (b : Bool) → list_all (is_known front) (aims_at rows q) ≡ b → b ≡ false
      go false e = refl
      go true e =
          let both = neither (has front q) (has (round rows front) q) (sym (has_both front (round rows front) q) ∙ none) in
          let is : is_next rows front q ≡ true = rw (both.0, e) in
          absurd (false≢true (sym both.1 ∙ filtered_has (is_next rows front) (length rows) q within is))

  pub within : (front : List ℕ) (q : ℕ) → has (round rows front) q ≡ true → q < length rows
  within front q h = filtered_within (is_next rows front) (length rows) q h

  -- after the whole order there is no round
  pub no_more : round rows (in_rounds rows) ≡ []
  no_more = go (round rows (in_rounds rows)) refl
    where
      go : (now : List ℕ) → round rows (in_rounds rows) ≡ now → now ≡ []
      go [] e = refl
      go (y ∷ ys) e =
          let here : has (round rows (in_rounds rows)) y ≡ true = ap (λ xs. has xs y) e ∙ has_itself ys y in
          let none = left_of (has (in_rounds rows) y) (list_all (is_known (in_rounds rows)) (aims_at rows y)) (passes rows (in_rounds rows) y here) in
          absurd (false≢true (sym none ∙ all_ordered rows y (within (in_rounds rows) y here) (fit (in_rounds rows) y here)))

  -- what comes behind a round, in the order or among the nodes that are not ordered, is in neither
  pub behind : (others front now later : List ℕ) (q : ℕ) (rest : List ℕ) → (front ++ now) ++ later ≡ in_rounds rows
      → ((o : ℕ) → has others o ≡ true → (o < length rows) × (has (in_rounds rows) o ≡ false))
      → later ++ others ≡ q ∷ rest → (q < length rows) × (has (front ++ now) q ≡ false)
  behind others front now [] q rest whole apart e =
      let one = apart q (ap (λ xs. has xs q) e ∙ has_itself rest q) in
      (one.0, ap (λ xs. has xs q) (sym (append-nil (front ++ now)) ∙ whole) ∙ one.1)
  behind others front now (t ∷ later) q rest whole apart e =
      let same : t ≡ q = cc in
      let here : has (in_rounds rows) t ≡ true = ap (λ xs. has xs t) (sym whole) ∙ has_middle (front ++ now) t later in
      let once = (is_order rows).once (front ++ now) t later (sym whole) in
      (subst (λ n. n < length rows) same ((is_order rows).within t here), ap (has (front ++ now)) (sym same) ∙ once)
