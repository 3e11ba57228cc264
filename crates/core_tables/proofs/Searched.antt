-- A search for the place of a part, by halves.
use Rattle.std.proofs.Common.{◌≡◌, ℕ, ◌+◌, ◌<◌, ◌≤◌, ◌⊎◌, Bool, true, false, ◌||◌, ◌&&◌, ltb, eqb, List, length, get_or, inl, inr, sym, ◌∙◌, refl, subst, arith}
use Rattle.std.specs.List.{AllPairs}
use Rattle.std.proofs.lemmas.Bool.{cases_lt}
use Rattle.std.proofs.lemmas.List.{get_or_default}
use Rattle.pide_base.specs.declared.part.Part.{Part}
use Rattle.core_tables.specs.declared.priority.Priority.{Priority}
use Rattle.core_tables.specs.Order.{height, goes_before}
use Rattle.core_tables.specs.Ready.{Standings, priority_of, comes_first}

-- the test, at numbers
abbrev first : ℕ → ℕ → ℕ → ℕ → Bool
first m n e f = ltb n m || (eqb m n && ltb e f)

told : (m n e f : ℕ) → first m n e f ≡ true → (n < m) ⊎ ((m ≡ n) × (e < f))
told m n e f is = grind arith

higher : (m n e f : ℕ) → n < m → first m n e f ≡ true
higher m n e f more = grind arith

older : (m n e f : ℕ) → m ≡ n → e < f → first m n e f ≡ true
older m n e f same less = grind arith

-- what is taken before one is taken before all that that one is taken before
pub through : (p q r : Priority) (e f g : ℕ) → goes_before p e q f ≡ true → goes_before q f r g ≡ true
    → goes_before p e r g ≡ true
through p q r e f g one two = go (told (height p) (height q) e f one) (told (height q) (height r) f g two)
  where
    go : (height q < height p) ⊎ ((height p ≡ height q) × (e < f))
        → (height r < height q) ⊎ ((height q ≡ height r) × (f < g)) → goes_before p e r g ≡ true
    go (inl a) (inl b) = higher (height p) (height r) e g (omega (arith, a, b))
    go (inl a) (inr b) = higher (height p) (height r) e g (omega (arith, a, b.0))
    go (inr a) (inl b) = higher (height p) (height r) e g (omega (arith, a.0, b))
    go (inr a) (inr b) = older (height p) (height r) e g (omega (arith, a.0, b.0)) (omega (arith, a.1, b.1))

module _ (all : Standings) (p : Priority) (e : ℕ) (parts : List Part)
    (order : AllPairs (λ a b. comes_first all b.exec a.exec ≡ true) parts) where
  -- taken before the part in the middle, so before all that stand before it
  pub still_later : (middle j : ℕ) (c d : Part) → middle < length parts → j < middle + 1
      → (let f = (get_or parts middle c).exec in goes_before p e (priority_of all f) f ≡ true)
      → let f = (get_or parts j d).exec in goes_before p e (priority_of all f) f ≡ true
  still_later middle j c d within low first = go (cases_lt j middle)
    where
      here : let f = (get_or parts middle d).exec in goes_before p e (priority_of all f) f ≡ true
      here = rw (get_or_default parts middle d c within) first

      go : (j < middle) ⊎ (middle ≤ j) → let f = (get_or parts j d).exec in goes_before p e (priority_of all f) f ≡ true
      go (inl less) = through p (priority_of all (get_or parts middle d).exec) (priority_of all (get_or parts j d).exec)
          e (get_or parts middle d).exec (get_or parts j d).exec here (order j middle d less within)
      go (inr high) = let same : j ≡ middle = omega (arith, high, low) in rw same here

  -- not taken before the part in the middle, so before none that stands behind it
  pub still_sooner : (middle j : ℕ) (c d : Part) → middle ≤ j → j < length parts
      → (let f = (get_or parts middle c).exec in goes_before p e (priority_of all f) f ≡ false)
      → let f = (get_or parts j d).exec in goes_before p e (priority_of all f) f ≡ false
  still_sooner middle j c d high within not = go (cases_lt middle j)
    where
      f : ℕ
      f = (get_or parts middle d).exec

      g : ℕ
      g = (get_or parts j d).exec

      here : goes_before p e (priority_of all f) f ≡ false
      here = let P : Part → Type 0 = λ x. goes_before p e (priority_of all x.exec) x.exec ≡ false in
          subst P (sym (get_or_default parts middle d c (omega (arith, high, within)))) not

      by : (b : Bool) → goes_before p e (priority_of all g) g ≡ b → comes_first all g f ≡ true → b ≡ false
      by false is first = refl
      by true is first =
          let yes' = through p (priority_of all g) (priority_of all f) e g f is first in
          let clash : true ≡ false = sym yes' ∙ here in cc

      go : (middle < j) ⊎ (j ≤ middle) → goes_before p e (priority_of all g) g ≡ false
      go (inl less) = by (goes_before p e (priority_of all g) g) refl (order middle j d less within)
      go (inr low) =
          let same : middle ≡ j = omega (arith, high, low) in
          let P : ℕ → Type 0 = λ k. let x = (get_or parts k d).exec in goes_before p e (priority_of all x) x ≡ false in
          subst P same here
