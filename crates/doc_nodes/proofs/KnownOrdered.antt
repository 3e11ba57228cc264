-- All nodes whose imports are ordered are ordered: each round orders one at least, so there are enough.
use Rattle.std.proofs.Common.{◌≡◌, ℕ, zero, suc, ◌+◌, ◌<◌, ◌≤◌, eqb, Bool, true, false, not, ◌&&◌, ◌||◌, cond, List, [], ◌∷◌, ◌++◌, length, filter, Option, refl, sym, ap, subst, ◌∙◌, arith, append-nil}
use mathlib.Core.Bool.{false≢true}
use Rattle.std.specs.List.{list_all, range_with_len}
use Rattle.std.proofs.lemmas.List.FromFn.{length-range_with_len}
use Rattle.std.proofs.lemmas.Bool.Decides.{nat_tests}
use Rattle.text_words.specs.Members.{has}
use Rattle.doc_nodes.specs.Rounds.{is_known, is_next, round, after_rounds, in_rounds}
use Rattle.doc_nodes.specs.Looks.{aims_at}
use Rattle.doc_nodes.proofs.Counts.{count, count_lt, count_short, count_one}
use Rattle.doc_nodes.proofs.KnownRounds.{is_order, all_more, known_more, left_of, passes}
use Rattle.text_words.proofs.KnownMembers.{has_both, cut_at, has_itself}
use Rattle.doc_nodes.proofs.KnownFiltered.{has_filter, has_filter_within}

module _ (rows : List (List (Option ℕ))) where
  abbrev unordered : List ℕ → ℕ → Bool
  unordered ordered p = not (has ordered p)

  abbrev places : List ℕ
  places = range_with_len 0 (length rows)

  -- where a round is empty, all later ones are
  pub stuck : (n : ℕ) (ordered : List ℕ) → round rows ordered ≡ [] → after_rounds rows n ordered ≡ ordered
  stuck zero ordered none = refl
  stuck (suc n) ordered none =
      let same : ordered ++ round rows ordered ≡ ordered = ap (λ xs. ordered ++ xs) none ∙ append-nil ordered in
      ap (after_rounds rows n) same ∙ stuck n ordered none

  has_place : (n a y : ℕ) → a ≤ y → y < a + n → has (range_with_len a n) y ≡ true
  has_place zero a y le lt = absurd (omega arith)
  has_place (suc n) a y le lt = go (eqb y a) refl (λ other. has_place n (a + 1) y (grind (arith, nat_tests)) (omega arith))
    where
      go : (same : Bool) → eqb y a ≡ same → (eqb y a ≡ false → has (range_with_len (a + 1) n) y ≡ true) → (same || has (range_with_len (a + 1) n) y) ≡ true
      go true e rest = refl
      go false e rest = rest e

  next_is_open : (ordered : List ℕ) (y : ℕ) → is_next rows ordered y ≡ true → unordered ordered y ≡ true
  next_is_open ordered y h = ap not (left_of (has ordered y) (list_all (is_known ordered) (aims_at rows y)) h)

  none_left : (ordered : List ℕ) (t : ℕ → Bool) → ((y : ℕ) → has places y ≡ true → t y ≡ false) → (n a : ℕ) → a + n ≤ length rows → filter t (range_with_len a n) ≡ []
  none_left ordered t fails zero a le = refl
  none_left ordered t fails (suc n) a le =
      let here : t a ≡ false = fails a (has_place (length rows) 0 a (omega arith) (omega arith)) in
      ap (λ b. cond b (a ∷ filter t (range_with_len (a + 1) n)) (filter t (range_with_len (a + 1) n))) here
      ∙ none_left ordered t fails n (a + 1) (omega arith)

  fewer : (ordered now : List ℕ) (x : ℕ) → unordered (ordered ++ now) x ≡ true → unordered ordered x ≡ true
  fewer ordered now x h = go (has ordered x) refl
    where
      go : (b : Bool) → has ordered x ≡ b → not b ≡ true
      go true e = absurd (false≢true (sym (ap not (has_both ordered now x ∙ ap (λ b. b || has now x) e)) ∙ h))
      go false e = refl

  -- after as many rounds as places are left no round has a node
  done : (n : ℕ) (ordered : List ℕ) → count (unordered ordered) places ≤ n → round rows (after_rounds rows n ordered) ≡ []
  done zero ordered le = none_left ordered (is_next rows ordered) closed (length rows) 0 (omega arith)
    where
      closed : (y : ℕ) → has places y ≡ true → is_next rows ordered y ≡ false
      closed y h = go (is_next rows ordered y) refl
        where
          go : (b : Bool) → is_next rows ordered y ≡ b → b ≡ false
          go true e = let some : 0 < count (unordered ordered) places = count_one (unordered ordered) places y h (next_is_open ordered y e) in absurd (omega arith)
          go false e = refl
  done (suc n) ordered le = go (round rows ordered) refl (done n (ordered ++ round rows ordered))
    where
      go : (now : List ℕ) → round rows ordered ≡ now
          → (count (unordered (ordered ++ round rows ordered)) places ≤ n → round rows (after_rounds rows n (ordered ++ round rows ordered)) ≡ [])
          → round rows (after_rounds rows n (ordered ++ round rows ordered)) ≡ []
      go [] e rest = ap (round rows) (stuck (suc n) ordered e) ∙ e
      go (y ∷ ys) e rest =
          let here : has (round rows ordered) y ≡ true = ap (λ xs. has xs y) e ∙ has_itself ys y in
          let placed : y < 0 + length rows = has_filter_within (is_next rows ordered) (length rows) 0 y here in
          let open_before : unordered ordered y ≡ true = next_is_open ordered y (passes rows ordered y here) in
          let closed_now : unordered (ordered ++ round rows ordered) y ≡ false =
          ap not (has_both ordered (round rows ordered) y ∙ ap (λ b. has ordered y || b) here ∙ or_true (has ordered y)) in
          let less : count (unordered (ordered ++ round rows ordered)) places < count (unordered ordered) places =
          count_lt (unordered (ordered ++ round rows ordered)) (unordered ordered) (fewer ordered (round rows ordered)) places y (has_place (length rows) 0 y (omega arith) (omega arith)) closed_now open_before in
          rest (omega arith)
        where
          or_true : (b : Bool) → (b || true) ≡ true
          or_true true = refl
          or_true false = refl

  last_round : round rows (in_rounds rows) ≡ []
  last_round = done (length rows) [] (omega (arith, count_short (unordered []) places, length-range_with_len 0 (length rows)))

  -- a node whose imports are all ordered is ordered
  pub all_ordered : (p : ℕ) → p < length rows → list_all (is_known (in_rounds rows)) (aims_at rows p) ≡ true → has (in_rounds rows) p ≡ true
  all_ordered p lt all = go (has (in_rounds rows) p) refl
    where
      go : (b : Bool) → has (in_rounds rows) p ≡ b → b ≡ true
      go true e = refl
      go false e =
          let next : is_next rows (in_rounds rows) p ≡ true = ap (λ b. not b && list_all (is_known (in_rounds rows)) (aims_at rows p)) e ∙ all in
          absurd (false≢true (ap (λ xs. has xs p) (sym last_round) ∙ has_filter (is_next rows (in_rounds rows)) (length rows) 0 p (omega arith) (omega arith) next))

  -- and an ordered node's imports are all ordered
  pub ordered_known : (p : ℕ) → has (in_rounds rows) p ≡ true → list_all (is_known (in_rounds rows)) (aims_at rows p) ≡ true
  ordered_known p h =
      let c = cut_at (in_rounds rows) p h in
      let front = (is_order rows).behind c.0 p c.1 c.2 in
      subst (λ xs. list_all (is_known xs) (aims_at rows p) ≡ true) (sym c.2) (all_more (is_known c.0) (is_known (c.0 ++ p ∷ c.1)) (known_more c.0 (p ∷ c.1)) (aims_at rows p) front)
