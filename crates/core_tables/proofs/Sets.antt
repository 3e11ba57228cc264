-- Membership by comparing and by equality.
use Rattle.std.proofs.Common.{◌≡◌, ℕ, Bool, cond, List, [], ◌∷◌, refl, sym, ap, ◌∙◌, arith, eqb, true, false}
use Rattle.std.specs.Ordering.{nat_cmp}
use Rattle.std.specs.BTreeMap.{is_at}
use Rattle.std.specs.List.{list_any}
use Rattle.std.specs.Set.{remove_key}
use Rattle.text_words.specs.Members.{has}
use Rattle.core_tables.specs.Changes.{removed}

-- two numbers compare equal just where they are equal
pub is_at-nat : (a b : ℕ) → is_at (nat_cmp a) b ≡ eqb a b
is_at-nat a b = grind arith

-- equality is told in either order
pub eqb_flip : (a b : ℕ) → eqb a b ≡ eqb b a
eqb_flip a b = grind arith

-- so the two ways to look for a number agree
pub has_is : (execs : List ℕ) (e : ℕ) → list_any (is_at (nat_cmp e)) execs ≡ has execs e
has_is [] e = refl
has_is (x ∷ xs) e = rw (is_at-nat e x) (rw (has_is xs e) refl)

-- a change at one number
pub changed : (old new : List ℕ) (x : ℕ) (b : Bool)
    → ((q : ℕ) → list_any (is_at (nat_cmp q)) new
    ≡ cond (is_at (nat_cmp x) q) b (list_any (is_at (nat_cmp q)) old))
    → (e : ℕ) → has new e ≡ cond (eqb e x) b (has old e)
changed old new x b is e = sym (has_is new e) ∙ is e
    ∙ rw (is_at-nat x e) (rw (has_is old e) (rw (eqb_flip x e) refl))

-- without the first key that compares equal
pub removed_is : (xs : List ℕ) (e : ℕ) → remove_key (is_at (nat_cmp e)) xs ≡ removed e xs
removed_is [] e = refl
removed_is (x ∷ xs) e = rw (is_at-nat e x) (rw (removed_is xs e) refl)

-- what is not there is not taken out
pub removed_none : (xs : List ℕ) (e : ℕ) → has xs e ≡ false → removed e xs ≡ xs
removed_none [] e none = refl
removed_none (x ∷ xs) e none = go (eqb e x) refl (removed_none xs e)
  where
    go : (b : Bool) → eqb e x ≡ b → (has xs e ≡ false → removed e xs ≡ xs) → removed e (x ∷ xs) ≡ x ∷ xs
    go true is rest = let clash : true ≡ false = rw is at none in cc
    go false is rest = rw is (ap (λ ys. x ∷ ys) (rest (rw is at none)))

-- what is left was there
pub has_before : (xs : List ℕ) (e f : ℕ) → has (removed e xs) f ≡ true → has xs f ≡ true
has_before [] e f is = is
has_before (x ∷ xs) e f is = go (eqb e x) (eqb f x) refl refl (has_before xs e f)
  where
    go : (b c : Bool) → eqb e x ≡ b → eqb f x ≡ c → (has (removed e xs) f ≡ true → has xs f ≡ true)
        → has (x ∷ xs) f ≡ true
    go b true one other rest = rw other refl
    go true false one other rest = rw other (rw one at is)
    go false false one other rest = rw other (rest (rw (one, other) at is))
