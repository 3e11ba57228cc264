-- What is pending: the executions that a test takes, whatever range they are looked for in.
use Rattle.std.proofs.Common.{◌≡◌, ◌⊎◌, inl, inr, ℕ, zero, suc, ◌+◌, ◌-◌, ◌<◌, ◌≤◌, Bool, true, false, cond, List, [], ◌∷◌, filter, refl, ap, sym, ◌∙◌, arith}
use Rattle.std.proofs.lemmas.Bool.{cases_lt, eqb-true, or_cases}
use Rattle.std.specs.Prelude.{◌==◌, nat_lt}
use Rattle.std.specs.List.{range_with_len}
use Rattle.text_words.specs.Members.{has}
use Rattle.exec_rules.specs.Assigning.{greater}
use Rattle.core_rules.specs.Doc.{greatest}
use Rattle.core_rules.proofs.KnownGreatest.{at_most}

pub filter_same : {A : Type 0} (f g : A → Bool) (xs : List A) → ((x : A) → f x ≡ g x) → filter f xs ≡ filter g xs
filter_same f g [] same = refl
filter_same f g (x ∷ xs) same = ap (λ b. cond b (x ∷ filter f xs) (filter f xs)) (same x)
    ∙ ap (λ ys. cond (g x) (x ∷ ys) ys) (filter_same f g xs same)

module _ (test : ℕ → Bool) where
  none_passes : (a k : ℕ) → ((x : ℕ) → a ≤ x → test x ≡ false) → filter test (range_with_len a k) ≡ []
  none_passes a zero none = refl
  none_passes a (suc k) none =
      ap (λ b. cond b (a ∷ filter test (range_with_len (a + 1) k)) (filter test (range_with_len (a + 1) k))) (none a (omega arith))
      ∙ none_passes (a + 1) k (λ x le. none x (omega (arith, le)))

  -- a longer range has no more of them
  pub range_more : (a n k : ℕ) → ((x : ℕ) → a + n ≤ x → test x ≡ false) → filter test (range_with_len a (n + k)) ≡ filter test (range_with_len a n)
  range_more a zero k none =
      let e : 0 + k ≡ k = omega arith in
      ap (λ m. filter test (range_with_len a m)) e ∙ none_passes a k (λ x le. none x (omega (arith, le)))
  range_more a (suc n) k none =
      let e : suc n + k ≡ suc (n + k) = omega arith in
      ap (λ m. filter test (range_with_len a m)) e
      ∙ ap (λ ys. cond (test a) (a ∷ ys) ys) (range_more (a + 1) n k (λ x le. none x (omega (arith, le))))

  pub same_range : (m n : ℕ) → ((x : ℕ) → m < x → test x ≡ false) → ((x : ℕ) → n < x → test x ≡ false)
      → filter test (range_with_len 1 m) ≡ filter test (range_with_len 1 n)
  same_range m n past behind = go (cases_lt m n)
    where
      go : (m < n) ⊎ (n ≤ m) → filter test (range_with_len 1 m) ≡ filter test (range_with_len 1 n)
      go (inl lt) =
          let e : m + (n - m) ≡ n = omega (arith, lt) in
          sym (range_more 1 m (n - m) (λ x le. past x (omega (arith, le)))) ∙ ap (λ k. filter test (range_with_len 1 k)) e
      go (inr le) =
          let e : n + (m - n) ≡ m = omega (arith, le) in
          ap (λ k. filter test (range_with_len 1 k)) (sym e) ∙ range_more 1 n (m - n) (λ x more. behind x (omega (arith, more)))

-- what is above all is not there
pub past_all : (xs : List ℕ) (x : ℕ) → greatest 0 xs < x → has xs x ≡ false
past_all xs x lt = go (has xs x) refl
  where
    go : (b : Bool) → has xs x ≡ b → has xs x ≡ false
    go false is = is
    go true is = let le = at_most 0 xs x is in absurd (omega (arith, lt, le))
