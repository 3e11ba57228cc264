-- Beginnings of lists, and the entries of one caller.
use Rattle.std.proofs.Common.{◌≡◌, ◌≢◌, ℕ, eqb, ◌≤◌, List, [], ◌∷◌, ◌++◌, cond, length, sym, refl, ap, ◌∙◌, arith, append_assoc, length-append, ne_eqb, eq-eqb}
use Rattle.std.proofs.lemmas.List.{append-nil}
use Rattle.std.proofs.lemmas.List.Elements.{filter-append}
use mathlib.Core.List.{IsPrefix}
use Rattle.hist_lock.specs.Entries.{own}

module _ {E : Type 0} where
  pub prefix_refl : (xs : List E) → IsPrefix xs xs
  prefix_refl xs = ([], append-nil xs)

  pub prefix_trans : (xs ys zs : List E) → IsPrefix xs ys → IsPrefix ys zs → IsPrefix xs zs
  prefix_trans xs ys zs p q = (p.0 ++ q.0, sym (append_assoc xs p.0 q.0) ∙ (ap (λ (l : List E). l ++ q.0) p.1 ∙ q.1))

  pub prefix_length : (xs ys : List E) → IsPrefix xs ys → length xs ≤ length ys
  prefix_length xs ys p = omega (arith, length-append xs p.0, ap length p.1)

  -- of two beginnings of one list, the shorter is where the longer begins
  pub prefix_shorter : (xs ys zs : List E) → IsPrefix xs zs → IsPrefix ys zs → length xs ≤ length ys → IsPrefix xs ys
  prefix_shorter [] ys zs p q l = (ys, refl)
  prefix_shorter (x ∷ xs) [] zs p q l = absurd (omega arith)
  prefix_shorter (x ∷ xs) (y ∷ ys) [] p q l = let e = p.1 in cc
  prefix_shorter (x ∷ xs) (y ∷ ys) (z ∷ zs) p q l =
      let p1 = p.1 in let q1 = q.1 in let a : xs ++ p.0 ≡ zs = cc in let b : ys ++ q.0 ≡ zs = cc in let h : x ≡ y = cc in
      let r = prefix_shorter xs ys zs (p.0, a) (q.0, b) (omega arith) in
      (r.0, (λ i. h i ∷ r.1 i))

  module _ (whose : E → ℕ) where
    pub own-append : (c : ℕ) (xs ys : List E) → own whose c (xs ++ ys) ≡ own whose c xs ++ own whose c ys
    own-append c xs ys = filter-append (λ e. eqb (whose e) c) xs ys

    pub own_other : (c : ℕ) (xs : List E) (e : E) → whose e ≢ c → own whose c (xs ++ e ∷ []) ≡ own whose c xs
    own_other c xs e n = own-append c xs (e ∷ []) ∙ (ap (λ b. own whose c xs ++ cond b (e ∷ []) []) (ne_eqb (whose e) c n) ∙ append-nil (own whose c xs))

    pub own_same : (c : ℕ) (xs : List E) (e : E) → whose e ≡ c → own whose c (xs ++ e ∷ []) ≡ own whose c xs ++ e ∷ []
    own_same c xs e is = own-append c xs (e ∷ []) ∙ ap (λ b. own whose c xs ++ cond b (e ∷ []) []) (eq-eqb (whose e) c is)
