-- Nothing is kept at any place of a list of nothings.
use Rattle.std.proofs.Common.{◌≡◌, ℕ, zero, suc, ◌+◌, List, [], ◌∷◌, ◌++◌, length, get_or, Option, None, length-append, refl, ap, ◌∙◌, arith}

module _ {X : Type 0} where
  abbrev pub IsNothing : List (Option X) → Type 0
  IsNothing xs = (q : ℕ) → get_or xs q None ≡ None

  longer : (xs : List (Option X)) → IsNothing xs → IsNothing (xs ++ None ∷ [])
  longer [] none zero = refl
  longer [] none (suc q) = refl
  longer (x ∷ xs) none zero = none zero
  longer (x ∷ xs) none (suc q) = longer xs (λ k. none (suc k)) q

  -- one nothing more
  pub one_more : (xs ys : List (Option X)) (n : ℕ) → ys ≡ xs ++ None ∷ [] → length xs ≡ n → IsNothing xs → (length ys ≡ n + 1) × IsNothing ys
  one_more xs ys n is long none =
      let count = ap length is in let both = length-append xs (None ∷ []) in
      (omega arith, λ q. ap (λ zs. get_or zs q None) is ∙ longer xs none q)
