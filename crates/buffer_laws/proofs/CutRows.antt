-- The first row of the table that fits is the same where the text is cut behind it.
use Rattle.std.proofs.Common.{◌≡◌, ℕ, zero, suc, ◌≤◌, List, [], ◌∷◌, length, take, refl, sym, ap, subst, arith}
use Rattle.outer_syntax.specs.Rows.{HasForm, IsFirstRow}
use Rattle.outer_syntax.specs.declared.row.Row.{Row}

pub take_within : {A : Type 0} (n m : ℕ) (xs : List A) → n ≤ m → take n (take m xs) ≡ take n xs
take_within zero m xs le = refl
take_within (suc n) zero xs le = absurd (omega arith)
take_within (suc n) (suc m) [] le = refl
take_within (suc n) (suc m) (x ∷ xs) le = ap (λ ys. x ∷ ys) (take_within n m xs (omega arith))

within_take : {A : Type 0} (n m : ℕ) (xs : List A) → n ≤ m → n ≤ length xs → n ≤ length (take m xs)
within_take zero m xs le lx = omega arith
within_take (suc n) zero xs le lx = absurd (omega arith)
within_take (suc n) (suc m) [] le lx = absurd (omega arith)
within_take (suc n) (suc m) (x ∷ xs) le lx = let more = within_take n m xs (omega arith) (omega arith) in omega arith

short : {A : Type 0} (k m : ℕ) (xs : List A) → k ≤ length (take m xs) → (k ≤ m) × (k ≤ length xs)
short zero m xs le = (omega arith, omega arith)
short (suc k) zero xs le = absurd (omega arith)
short (suc k) (suc m) [] le = absurd (omega arith)
short (suc k) (suc m) (x ∷ xs) le = let more = short k m xs (omega arith) in (omega (arith, more.0), omega (arith, more.1))

-- the first row that fits is the same where the text is cut behind it
pub cut_row : (row : Row) (xs : List ℕ) (n m : ℕ) → IsFirstRow xs row n → n ≤ m → IsFirstRow (take m xs) row n
cut_row row xs n m is le = record {
  longest = record {
    within = within_take n m xs le is.longest.within;
    fits = subst (HasForm row) (sym (take_within n m xs le)) is.longest.fits;
    longest = λ k lk form. let in_both = short k m xs lk in
        is.longest.longest k in_both.1 (subst (HasForm row) (take_within k m xs in_both.0) form);
  };
  first = λ r lt k lk form. let in_both = short k m xs lk in
      is.first r lt k in_both.1 (subst (HasForm r) (take_within k m xs in_both.0) form);
}
