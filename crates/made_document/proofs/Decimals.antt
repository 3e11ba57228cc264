-- The digits of numbers: they are printable, and parts of identifiers.
use Rattle.std.proofs.Common.{◌≡◌, ℕ, zero, suc, ◌+◌, ◌%◌, ◌^◌, ◌<◌, Bool, true, List, [], ◌∷◌, ◌++◌, decimal, refl, arith}
use Rattle.std.proofs.lemmas.Bool.{and_from}
use Rattle.std.proofs.lemmas.Fmt.{decimal_by_steps}
use Rattle.std.specs.Prelude.{◌&&◌, nat_le, nat_lt}
use Rattle.std.specs.List.{list_all}
use Rattle.text_words.specs.Identifier.{is_identifier_part}

-- from the newline on, and ASCII
abbrev pub is_printable : ℕ → Bool
is_printable c = nat_le 10 c && nat_lt c 128

pub all_joined : (test : ℕ → Bool) (xs ys : List ℕ) → list_all test xs ≡ true → list_all test ys ≡ true → list_all test (xs ++ ys) ≡ true
all_joined test [] ys first then = then
all_joined test (x ∷ xs) ys first then = go (test x) first (all_joined test xs ys)
  where
    go : (b : Bool) → (b && list_all test xs) ≡ true → (list_all test xs ≡ true → list_all test ys ≡ true → list_all test (xs ++ ys) ≡ true)
        → (b && list_all test (xs ++ ys)) ≡ true
    go true is rest = rest is then
    go Bool.false is rest = absurd (cc)

-- a test that ten digits pass
pub digits_pass : (test : ℕ → Bool) → ((k : ℕ) → k < 10 → test (48 + k) ≡ true) → (n : ℕ) → n < 2 ^ 64 → list_all test (decimal n) ≡ true
digits_pass test each = decimal_by_steps (λ n digits. list_all test digits ≡ true) (λ n lt. and_from (test (48 + n)) true (each n lt) refl)
    (λ n digits lt all. all_joined test digits ((48 + n % 10) ∷ []) all (and_from (test (48 + n % 10)) true (each (n % 10) (omega arith)) refl))

digit_printable : (k : ℕ) → k < 10 → is_printable (48 + k) ≡ true
digit_printable zero lt = refl
digit_printable (suc zero) lt = refl
digit_printable (suc (suc zero)) lt = refl
digit_printable (suc (suc (suc zero))) lt = refl
digit_printable (suc (suc (suc (suc zero)))) lt = refl
digit_printable (suc (suc (suc (suc (suc zero))))) lt = refl
digit_printable (suc (suc (suc (suc (suc (suc zero)))))) lt = refl
digit_printable (suc (suc (suc (suc (suc (suc (suc zero))))))) lt = refl
digit_printable (suc (suc (suc (suc (suc (suc (suc (suc zero)))))))) lt = refl
digit_printable (suc (suc (suc (suc (suc (suc (suc (suc (suc zero))))))))) lt = refl
digit_printable (suc (suc (suc (suc (suc (suc (suc (suc (suc (suc k)))))))))) lt = absurd (omega (arith, lt))

digit_part : (k : ℕ) → k < 10 → is_identifier_part (48 + k) ≡ true
digit_part zero lt = refl
digit_part (suc zero) lt = refl
digit_part (suc (suc zero)) lt = refl
digit_part (suc (suc (suc zero))) lt = refl
digit_part (suc (suc (suc (suc zero)))) lt = refl
digit_part (suc (suc (suc (suc (suc zero))))) lt = refl
digit_part (suc (suc (suc (suc (suc (suc zero)))))) lt = refl
digit_part (suc (suc (suc (suc (suc (suc (suc zero))))))) lt = refl
digit_part (suc (suc (suc (suc (suc (suc (suc (suc zero)))))))) lt = refl
digit_part (suc (suc (suc (suc (suc (suc (suc (suc (suc zero))))))))) lt = refl
digit_part (suc (suc (suc (suc (suc (suc (suc (suc (suc (suc k)))))))))) lt = absurd (omega (arith, lt))

pub decimal_printable : (n : ℕ) → n < 2 ^ 64 → list_all is_printable (decimal n) ≡ true
decimal_printable = digits_pass is_printable digit_printable

pub decimal_parts : (n : ℕ) → n < 2 ^ 64 → list_all is_identifier_part (decimal n) ≡ true
decimal_parts = digits_pass is_identifier_part digit_part
