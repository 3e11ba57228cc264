-- What holds of each item, and what a filter or a search leaves of a list.
use Rattle.std.proofs.Common.{◌≡◌, ◌≤◌, ◌+◌, Bool, true, false, cond, List, [], ◌∷◌, ◌++◌, length, filter, Option, Some, None, Result, Ok, Err, IfOk, refl, sym, ◌∙◌, ap, arith, length-append}
use Rattle.std.specs.Prelude.{find}
use Rattle.std.proofs.lemmas.Bool.{false≢true}
use Rattle.shared_map.specs.Pairs.{Each}

module _ {X : Type 0} (P : X → Type 0) where
  pub Each-append : (xs ys : List X) → Each P xs → Each P ys → Each P (xs ++ ys)
  Each-append [] ys all more = more
  Each-append (x ∷ xs) ys all more = (all.0, Each-append xs ys all.1 more)

  pub Each-front : (xs ys : List X) → Each P (xs ++ ys) → Each P xs
  Each-front [] ys all = tt
  Each-front (x ∷ xs) ys all = (all.0, Each-front xs ys all.1)

  pub Each-back : (xs ys : List X) → Each P (xs ++ ys) → Each P ys
  Each-back [] ys all = all
  Each-back (x ∷ xs) ys all = Each-back xs ys all.1

  pub Each-filter : (f : X → Bool) (xs : List X) → Each P xs → Each P (filter f xs)
  Each-filter f [] all = tt
  Each-filter f (x ∷ xs) all = go (f x) (Each-filter f xs all.1)
    where
      go : (b : Bool) → Each P (filter f xs) → Each P (cond b (x ∷ filter f xs) (filter f xs))
      go true rest = (all.0, rest)
      go false rest = rest

  pub Each-along : (Q : X → Type 0) → ((x : X) → P x → Q x) → (xs : List X) → Each P xs → Each Q xs
  Each-along Q so [] all = tt
  Each-along Q so (x ∷ xs) all = (so x all.0, Each-along Q so xs all.1)

module _ {X : Type 0} (f : X → Bool) where
  pub filter_all : (xs : List X) → Each (λ x. f x ≡ true) xs → filter f xs ≡ xs
  filter_all [] all = refl
  filter_all (x ∷ xs) all =
      ap (λ b. cond b (x ∷ filter f xs) (filter f xs)) all.0 ∙ ap (λ rest. x ∷ rest) (filter_all xs all.1)

  pub filter_none : (xs : List X) → Each (λ x. f x ≡ false) xs → filter f xs ≡ []
  filter_none [] all = refl
  filter_none (x ∷ xs) all = ap (λ b. cond b (x ∷ filter f xs) (filter f xs)) all.0 ∙ filter_none xs all.1

  pub Each-passed : (xs : List X) → Each (λ x. f x ≡ true) (filter f xs)
  Each-passed [] = tt
  Each-passed (x ∷ xs) = go (f x) refl (Each-passed xs)
    where
      go : (b : Bool) → f x ≡ b → Each (λ x. f x ≡ true) (filter f xs)
          → Each (λ x. f x ≡ true) (cond b (x ∷ filter f xs) (filter f xs))
      go true e rest = (e, rest)
      go false e rest = rest

  pub find_none : (xs : List X) → Each (λ x. f x ≡ false) xs → find f xs ≡ None
  find_none [] all = refl
  find_none (x ∷ xs) all = ap (λ b. cond b (Some x) (find f xs)) all.0 ∙ find_none xs all.1

module _ {X : Type 0} (f g : X → Bool) where
  -- a search finds nothing where the filter drops what it looks for
  pub find_dropped : ((x : X) → f x ≡ true → g x ≡ false) → (xs : List X) → find f (filter g xs) ≡ None
  find_dropped drops [] = refl
  find_dropped drops (x ∷ xs) = go (g x) refl (f x) refl (find_dropped drops xs)
    where
      go : (b : Bool) → g x ≡ b → (a : Bool) → f x ≡ a → find f (filter g xs) ≡ None
          → find f (cond b (x ∷ filter g xs) (filter g xs)) ≡ None
      go true h true e rest = absurd (false≢true (sym (drops x e) ∙ h))
      go true h false e rest = ap (λ b. cond b (Some x) (find f (filter g xs))) e ∙ rest
      go false h a e rest = rest

  -- two filters in either order
  pub filter_swap : (xs : List X) → filter f (filter g xs) ≡ filter g (filter f xs)
  filter_swap [] = refl
  filter_swap (x ∷ xs) = go (f x) refl (g x) refl (filter_swap xs)
    where
      go : (a : Bool) → f x ≡ a → (b : Bool) → g x ≡ b → filter f (filter g xs) ≡ filter g (filter f xs)
          → filter f (cond b (x ∷ filter g xs) (filter g xs)) ≡ filter g (cond a (x ∷ filter f xs) (filter f xs))
      go true e true h rest =
          ap (λ b. cond b (x ∷ filter f (filter g xs)) (filter f (filter g xs))) e
          ∙ ap (λ l. x ∷ l) rest
          ∙ sym (ap (λ b. cond b (x ∷ filter g (filter f xs)) (filter g (filter f xs))) h)
      go true e false h rest = rest ∙ sym (ap (λ b. cond b (x ∷ filter g (filter f xs)) (filter g (filter f xs))) h)
      go false e true h rest = ap (λ b. cond b (x ∷ filter f (filter g xs)) (filter f (filter g xs))) e ∙ rest
      go false e false h rest = rest

  -- the narrower of two filters is enough
  pub filter_narrower : ((x : X) → f x ≡ true → g x ≡ true) → (xs : List X) → filter f (filter g xs) ≡ filter f xs
  filter_narrower keeps [] = refl
  filter_narrower keeps (x ∷ xs) = go (f x) refl (g x) refl (filter_narrower keeps xs)
    where
      go : (a : Bool) → f x ≡ a → (b : Bool) → g x ≡ b → filter f (filter g xs) ≡ filter f xs
          → filter f (cond b (x ∷ filter g xs) (filter g xs)) ≡ cond a (x ∷ filter f xs) (filter f xs)
      go true e true h rest = ap (λ b. cond b (x ∷ filter f (filter g xs)) (filter f (filter g xs))) e ∙ ap (λ l. x ∷ l) rest
      go true e false h rest = absurd (false≢true (sym h ∙ keeps x e))
      go false e true h rest = ap (λ b. cond b (x ∷ filter f (filter g xs)) (filter f (filter g xs))) e ∙ rest
      go false e false h rest = rest

module _ {X : Type 0} (f : X → Bool) where
  pub filter_shorter : (xs : List X) → length (filter f xs) ≤ length xs
  filter_shorter [] = omega arith
  filter_shorter (x ∷ xs) = go (f x) (filter_shorter xs)
    where
      go : (b : Bool) → length (filter f xs) ≤ length xs → length (cond b (x ∷ filter f xs) (filter f xs)) ≤ length (x ∷ xs)
      go true less = omega arith
      go false less = omega arith

-- a list with an item between two parts
pub length_of : {X : Type 0} (all l : List X) (x : X) (r : List X) → all ≡ l ++ x ∷ r → length all ≡ length l + 1 + length r
length_of all l x r whole = omega (arith, ap length whole, length-append l (x ∷ r))

-- a value that is made is another's equal
pub ok_along : {T E : Type 0} (r : Result T E) (a b : T) → a ≡ b → IfOk r (λ t. t ≡ a) → IfOk r (λ t. t ≡ b)
ok_along (Ok t) a b e is = is ∙ e
ok_along (Err error) a b e is = tt
