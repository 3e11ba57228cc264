-- How many commands keep their ids, and which ids there are.
use Rattle.std.proofs.Common.{◌≡◌, ℕ, zero, suc, ◌≤◌, Bool, true, false, List, [], ◌∷◌, length, take, drop, reverse, sym, refl, ap, ◌∙◌, subst, arith}
use Rattle.std.proofs.lemmas.Bool.{both_ways, cond-true, cond-false}
use Rattle.doc_nodes.specs.Names.{equal}
use Rattle.doc_nodes.proofs.KnownNames.{name_is, name_itself}
use Rattle.buffer_rules.specs.Numbers.{equal_front, kept_runs, IsLongestFront, IsLongestKept}

abbrev head_of : List ℕ → List (List ℕ) → List ℕ
head_of d [] = d
head_of d (x ∷ xs) = x

abbrev tail_of : List (List ℕ) → List (List ℕ)
tail_of [] = []
tail_of (x ∷ xs) = xs

-- one equal text more in front
one_more : (x y : List ℕ) (xs ys : List (List ℕ)) (n : ℕ) → x ≡ y → IsLongestFront xs ys n
    → IsLongestFront (x ∷ xs) (y ∷ ys) (suc n)
one_more x y xs ys n same more = record {
  within = (omega (arith, more.within.0), omega (arith, more.within.1));
  same = ap (λ z. z ∷ take n xs) same ∙ ap (λ zs. y ∷ zs) more.same;
  longest = longer;
} where
  longer : (m : ℕ) → m ≤ length (x ∷ xs) → m ≤ length (y ∷ ys) → take m (x ∷ xs) ≡ take m (y ∷ ys)
      → m ≤ suc n
  longer zero in_xs in_ys e = omega arith
  longer (suc m) in_xs in_ys e =
      omega (arith, more.longest m (omega arith) (omega arith) (ap tail_of e))

-- another text in front
no_more : (x y : List ℕ) (xs ys : List (List ℕ)) → equal x y ≡ false
    → IsLongestFront (x ∷ xs) (y ∷ ys) 0
no_more x y xs ys other = record {
  within = (omega arith, omega arith);
  same = refl;
  longest = none;
} where
  none : (m : ℕ) → m ≤ length (x ∷ xs) → m ≤ length (y ∷ ys) → take m (x ∷ xs) ≡ take m (y ∷ ys) → m ≤ 0
  none zero in_xs in_ys e = omega arith
  none (suc m) in_xs in_ys e =
      absurd (both_ways (equal x y) other (ap (equal x) (sym (ap (head_of x) e)) ∙ name_itself x))

-- the front that is found is the longest
pub longest : (xs ys : List (List ℕ)) → IsLongestFront xs ys (equal_front xs ys)
longest [] ys = record {
  within = (omega arith, omega arith);
  same = refl;
  longest = λ m in_xs in_ys e. in_xs;
}
longest (x ∷ xs) [] = record {
  within = (omega arith, omega arith);
  same = refl;
  longest = λ m in_xs in_ys e. in_ys;
}
longest (x ∷ xs) (y ∷ ys) = go (longest xs ys) (equal x y) refl where
  go : IsLongestFront xs ys (equal_front xs ys) → (b : Bool) → equal x y ≡ b
      → IsLongestFront (x ∷ xs) (y ∷ ys) (equal_front (x ∷ xs) (y ∷ ys))
  go more true here =
      subst (IsLongestFront (x ∷ xs) (y ∷ ys))
      (sym (cond-true (equal x y) (suc (equal_front xs ys)) 0 here))
      (one_more x y xs ys (equal_front xs ys) (name_is x y here) more)
  go more false here =
      subst (IsLongestFront (x ∷ xs) (y ∷ ys))
      (sym (cond-false (equal x y) (suc (equal_front xs ys)) 0 here))
      (no_more x y xs ys here)

-- so is what is kept at the front and at the back
pub kept_so : (before now : List (List ℕ)) → IsLongestKept before now (kept_runs before now)
kept_so before now = record {
  front = longest before now;
  back = longest (reverse (drop (equal_front before now) before)) (reverse (drop (equal_front before now) now));
}
