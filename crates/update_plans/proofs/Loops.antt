-- Loops that add to a list what comes of one item after the other.
use Rattle.std.proofs.Common.{◌≡◌, ℕ, zero, suc, ◌+◌, ◌<◌, ◌≤◌, List, [], ◌∷◌, ◌++◌, length, drop, get_or, Option, Some, refl, ap, sym, ◌∙◌, arith, append_assoc, append-nil}
use Rattle.std.proofs.lemmas.List.{drop_more, drop_all}
use Rattle.std.proofs.lemmas.Option.{slice_get_within, slice_get-get_or}
use Rattle.std.specs.Prelude.{slice_get, flat_map}
use Rattle.exec_rules.specs.declared.row.Row.{Row}
use Rattle.update_plans.specs.Rows.{beside}

module _ {X : Type 0} where
  there : (xs : List X) (i : ℕ) → i < length xs → (x : X) × (slice_get xs i ≡ Some x)
  there [] i lt = absurd (omega arith)
  there (x ∷ xs) zero lt = (x, refl)
  there (x ∷ xs) (suc i) lt = there xs i (omega arith)

  next : (xs : List X) (i : ℕ) (x : X) → slice_get xs i ≡ Some x → drop i xs ≡ x ∷ drop (i + 1) xs
  next xs i x at =
      let lt = slice_get_within xs i x at in
      let got : Some (get_or xs i x) ≡ Some x = sym (slice_get-get_or xs i x lt) ∙ at in
      let same : get_or xs i x ≡ x = cc in
      drop_more xs i x lt ∙ ap (λ y. y ∷ drop (i + 1) xs) same

  first_at : (xs : List X) (i : ℕ) → slice_get (drop i xs) 0 ≡ slice_get xs i
  first_at [] zero = refl
  first_at [] (suc i) = refl
  first_at (x ∷ xs) zero = refl
  first_at (x ∷ xs) (suc i) = first_at xs i

  drop_next : (xs : List X) (i : ℕ) → drop 1 (drop i xs) ≡ drop (suc i) xs
  drop_next [] zero = refl
  drop_next [] (suc i) = refl
  drop_next (x ∷ xs) zero = refl
  drop_next (x ∷ xs) (suc i) = drop_next xs i

  drop_one : (xs : List X) (i : ℕ) → drop 1 (drop i xs) ≡ drop (i + 1) xs
  drop_one xs i = let next : suc i ≡ i + 1 = omega arith in drop_next xs i ∙ ap (λ n. drop n xs) next

module _ {X Y : Type 0} (of : X → List Y) where
  -- one item more
  pub flat_more : (xs : List X) (i : ℕ) (before more all : List Y) → i < length xs
      → ((x : X) → slice_get xs i ≡ Some x → more ≡ before ++ of x)
      → before ++ flat_map of (drop i xs) ≡ all → more ++ flat_map of (drop (i + 1) xs) ≡ all
  flat_more xs i before more all lt here done =
      let found = there xs i lt in
      let rest = flat_map of (drop (i + 1) xs) in
      ap (λ (ys : List Y). ys ++ rest) (here found.0 found.1) ∙ append_assoc before (of found.0) rest
      ∙ ap (λ (ys : List Y). before ++ ys) (sym (ap (flat_map of) (next xs i found.0 found.1))) ∙ done

  -- none is left
  pub flat_over : (xs : List X) (i : ℕ) (before all : List Y) → length xs ≤ i → before ++ flat_map of (drop i xs) ≡ all → before ≡ all
  flat_over xs i before all le done =
      sym (append-nil before) ∙ ap (λ (rest : List X). before ++ flat_map of rest) (sym (drop_all i xs le)) ∙ done

module _ {Y : Type 0} (of : Row → Option Row → List Y) where
  -- one row more
  pub beside_more : (rows now : List Row) (i : ℕ) (row : Row) (o : Option Row) (before more all : List Y) → i < length rows
      → row ≡ get_or rows i row → o ≡ slice_get now i → more ≡ before ++ of row o
      → before ++ beside of (drop i rows) (drop i now) ≡ all → more ++ beside of (drop (i + 1) rows) (drop (i + 1) now) ≡ all
  beside_more rows now i row o before more all lt er eo em done =
      let rest = beside of (drop (i + 1) rows) (drop (i + 1) now) in
      let nexts : drop i rows ≡ row ∷ drop (i + 1) rows =
      drop_more rows i row lt ∙ ap (λ (r : Row). r ∷ drop (i + 1) rows) (sym er) in
      let here : beside of (drop i rows) (drop i now) ≡ of row o ++ rest =
      ap (λ (rs : List Row). beside of rs (drop i now)) nexts
      ∙ ap (λ (p : Option Row). of row p ++ beside of (drop (i + 1) rows) (drop 1 (drop i now))) (first_at now i ∙ sym eo)
      ∙ ap (λ (ns : List Row). of row o ++ beside of (drop (i + 1) rows) ns) (drop_one now i) in
      ap (λ (ys : List Y). ys ++ rest) em ∙ append_assoc before (of row o) rest
      ∙ ap (λ (ys : List Y). before ++ ys) (sym here) ∙ done

  pub beside_over : (rows now : List Row) (i : ℕ) (before all : List Y) → length rows ≤ i
      → before ++ beside of (drop i rows) (drop i now) ≡ all → before ≡ all
  beside_over rows now i before all le done =
      sym (append-nil before) ∙ ap (λ (rs : List Row). before ++ beside of rs (drop i now)) (sym (drop_all i rows le)) ∙ done
