-- What holds of the order by rounds.
use Rattle.std.proofs.Common.{◌≡◌, ◌⊎◌, inl, inr, ℕ, zero, suc, ◌+◌, ◌<◌, Bool, true, false, not, ◌&&◌, ◌||◌, List, [], ◌∷◌, ◌++◌, length, Option, Some, None, refl, sym, ap, subst, ◌∙◌, arith}
use mathlib.Core.Bool.{false≢true}
use Rattle.std.specs.List.{list_all}
use Rattle.std.proofs.lemmas.Bool.{or_cases}
use Rattle.text_words.specs.Members.{has}
use Rattle.doc_nodes.specs.Rounds.{is_known, is_next, round, after_rounds, in_rounds}
use Rattle.doc_nodes.specs.Looks.{aims_at}
use Rattle.text_words.proofs.KnownMembers.{has_both, has_middle}
use Rattle.doc_nodes.proofs.KnownFiltered.{has_filter_within, has_passes, once_in}

-- a list that ends in two ways is cut in the first or in the second part
pub cut : {X : Type 0} (xs ys front : List X) (p : X) (rest : List X) → xs ++ ys ≡ front ++ p ∷ rest
    → ((r : List X) × (xs ≡ front ++ p ∷ r)) ⊎ ((f : List X) × (front ≡ xs ++ f) × (ys ≡ f ++ p ∷ rest))
cut [] ys front p rest e = inr (front, refl, e)
cut (x ∷ xs) ys [] p rest e = let first : x ≡ p = cc in inl (xs, ap (λ y. y ∷ xs) first)
cut {X = X} (x ∷ xs) ys (f ∷ front) p rest e =
    let first : x ≡ f = cc in
    let later : xs ++ ys ≡ front ++ p ∷ rest = cc in
    go first (cut xs ys front p rest later)
  where
    go : x ≡ f → ((r : List X) × (xs ≡ front ++ p ∷ r)) ⊎ ((g : List X) × (front ≡ xs ++ g) × (ys ≡ g ++ p ∷ rest))
        → ((r : List X) × (x ∷ xs ≡ f ∷ front ++ p ∷ r)) ⊎ ((g : List X) × (f ∷ front ≡ x ∷ xs ++ g) × (ys ≡ g ++ p ∷ rest))
    go first (inl c) = inl (c.0, cc)
    go first (inr c) = inr (c.0, cc, c.2)

pub all_more : {X : Type 0} (f g : X → Bool) → ((x : X) → f x ≡ true → g x ≡ true) → (xs : List X) → list_all f xs ≡ true → list_all g xs ≡ true
all_more f g more [] all = refl
all_more f g more (x ∷ xs) all = go (f x) refl all (all_more f g more xs)
  where
    go : (b : Bool) → f x ≡ b → (b && list_all f xs) ≡ true → (list_all f xs ≡ true → list_all g xs ≡ true) → (g x && list_all g xs) ≡ true
    go true e h rest = rw (more x e) (rest h)
    go false e h rest = absurd (false≢true h)

pub known_more : (ordered f : List ℕ) (aim : Option ℕ) → is_known ordered aim ≡ true → is_known (ordered ++ f) aim ≡ true
known_more ordered f None h = h
known_more ordered f (Some p) h = has_both ordered f p ∙ ap (λ b. b || has f p) h

-- what the rounds keep: places in range, each once, behind its imports
pub record IsOrder (rows : List (List (Option ℕ))) (ordered : List ℕ) : Type 0 where
  pub within : (p : ℕ) → has ordered p ≡ true → p < length rows
  pub once : (front : List ℕ) (p : ℕ) (rest : List ℕ) → ordered ≡ front ++ p ∷ rest → has front p ≡ false
  pub behind : (front : List ℕ) (p : ℕ) (rest : List ℕ) → ordered ≡ front ++ p ∷ rest → list_all (is_known front) (aims_at rows p) ≡ true

pub left_of : (a b : Bool) → (not a && b) ≡ true → a ≡ false
left_of true b h = absurd (false≢true h)
left_of false b h = refl

pub right_of : (a b : Bool) → (not a && b) ≡ true → b ≡ true
right_of true b h = absurd (false≢true h)
right_of false b h = h

module _ (rows : List (List (Option ℕ))) (ordered : List ℕ) where
  pub passes : (p : ℕ) → has (round rows ordered) p ≡ true → is_next rows ordered p ≡ true
  passes p h = has_passes (is_next rows ordered) (length rows) 0 p h

  step : IsOrder rows ordered → IsOrder rows (ordered ++ round rows ordered)
  step o = record { within = within; once = once; behind = behind }
    where
      within : (p : ℕ) → has (ordered ++ round rows ordered) p ≡ true → p < length rows
      within p h = elim (or_cases (has ordered p) (has (round rows ordered) p) (sym (has_both ordered (round rows ordered) p) ∙ h)) [
        | inl before ↦ o.within p before
        | inr now ↦ let r : p < 0 + length rows = has_filter_within (is_next rows ordered) (length rows) 0 p now in omega arith
      ]

      once : (front : List ℕ) (p : ℕ) (rest : List ℕ) → ordered ++ round rows ordered ≡ front ++ p ∷ rest → has front p ≡ false
      once front p rest e = elim (cut ordered (round rows ordered) front p rest e) [
        | inl c ↦ o.once front p c.0 c.1
        | inr c ↦
            let next = passes p (ap (λ xs. has xs p) c.2 ∙ has_middle c.0 p rest) in
            ap (λ xs. has xs p) c.1
            ∙ has_both ordered c.0 p
            ∙ ap (λ b. b || has c.0 p) (left_of (has ordered p) (list_all (is_known ordered) (aims_at rows p)) next)
            ∙ once_in (is_next rows ordered) (length rows) 0 c.0 p rest c.2
      ]

      behind : (front : List ℕ) (p : ℕ) (rest : List ℕ) → ordered ++ round rows ordered ≡ front ++ p ∷ rest → list_all (is_known front) (aims_at rows p) ≡ true
      behind front p rest e = elim (cut ordered (round rows ordered) front p rest e) [
        | inl c ↦ o.behind front p c.0 c.1
        | inr c ↦
            let next = passes p (ap (λ xs. has xs p) c.2 ∙ has_middle c.0 p rest) in
            let all = right_of (has ordered p) (list_all (is_known ordered) (aims_at rows p)) next in
            subst (λ xs. list_all (is_known xs) (aims_at rows p) ≡ true) (sym c.1)
            (all_more (is_known ordered) (is_known (ordered ++ c.0)) (known_more ordered c.0) (aims_at rows p) all)
      ]

order_after : (rows : List (List (Option ℕ))) (n : ℕ) (ordered : List ℕ) → IsOrder rows ordered → IsOrder rows (after_rounds rows n ordered)
order_after rows zero ordered o = o
order_after rows (suc n) ordered o = order_after rows n (ordered ++ round rows ordered) (step rows ordered o)

nothing_ordered : (rows : List (List (Option ℕ))) → IsOrder rows []
nothing_ordered rows = record {
  within = λ p h. absurd (false≢true h);
  once = λ front p rest e. absurd (empty front p rest e);
  behind = λ front p rest e. absurd (empty front p rest e);
}
  where
    empty : (front : List ℕ) (p : ℕ) (rest : List ℕ) → [] ≡ front ++ p ∷ rest → ⊥
    empty [] p rest e = cc
    empty (x ∷ front) p rest e = cc

pub is_order : (rows : List (List (Option ℕ))) → IsOrder rows (in_rounds rows)
is_order rows = order_after rows (length rows) [] (nothing_ordered rows)
