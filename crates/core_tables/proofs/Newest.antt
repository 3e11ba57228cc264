-- The newest version stays where only others are removed.
use Rattle.std.proofs.Common.{◌≡◌, ℕ, ◌-◌, Bool, true, false, not, List, [], ◌∷◌, length, cond, Option, Some, None, slice_get, refl, sym, ap, ◌∙◌, arith}
use Rattle.std.specs.List.{filter, list_any}
use Rattle.std.specs.Option.{option_map_or}
use Rattle.std.specs.Prelude.{◌==◌}
use Rattle.core_tables.specs.declared.versions.Live.{Live}
use Rattle.core_tables.specs.Live.{newest, is_tip}

-- the last element, or d where there is none
abbrev last_from : {X : Type 0} → Option X → List X → Option X
last_from d [] = d
last_from d (x ∷ xs) = last_from (Some x) xs

last_of_more : {X : Type 0} (x : X) (xs : List X) → slice_get (x ∷ xs) (length xs) ≡ last_from (Some x) xs
last_of_more x [] = refl
last_of_more x (y ∷ ys) = last_of_more y ys

last_is : {X : Type 0} (xs : List X) → slice_get xs (length xs - 1) ≡ last_from None xs
last_is [] = refl
last_is (x ∷ xs) = ap (slice_get (x ∷ xs)) (omega arith) ∙ last_of_more x xs

module _ {X : Type 0} (p : X → Bool) where
  -- a filter that keeps the last element ends with it
  keeps_last : (xs : List X) (d : Option X) → option_map_or p d true ≡ true → option_map_or p (last_from d xs) true ≡ true → last_from d (filter p xs) ≡ last_from d xs
  keeps_last [] d first last = refl
  keeps_last (x ∷ []) d first last = rw last
  keeps_last (x ∷ y ∷ ys) d first last = go (p x) refl (λ e. keeps_last (y ∷ ys) (Some x) e last) (keeps_last (y ∷ ys) d first last)
    where
      go : (b : Bool) → p x ≡ b
          → (p x ≡ true → last_from (Some x) (filter p (y ∷ ys)) ≡ last_from (Some y) ys)
          → last_from d (filter p (y ∷ ys)) ≡ last_from (Some y) ys
          → last_from d (cond b (x ∷ filter p (y ∷ ys)) (filter p (y ∷ ys))) ≡ last_from (Some y) ys
      go true e kept dropped = kept e
      go false e kept dropped = dropped

-- where the tip is not among the removed, it stays
pub newest_kept : {V : Type 0} (lives : List (Live V)) (ids : List ℕ) → list_any (λ id. is_tip lives id) ids ≡ false
    → newest (filter (λ (live : Live V). not (list_any (λ id. id == live.id) ids)) lives) ≡ newest lives
newest_kept {V} lives ids h = last_is (filter (λ (live : Live V). not (list_any (λ id. id == live.id) ids)) lives) ∙ keeps_last kept lives None refl (go _ (last_is lives)) ∙ sym (last_is lives)
  where
    kept : Live V → Bool
    kept live = not (list_any (λ id. id == live.id) ids)

    go : (o : Option (Live V)) → newest lives ≡ o → option_map_or kept o true ≡ true
    go None e = refl
    go (Some l) e =
        let named = simp e at h in
        rw named
