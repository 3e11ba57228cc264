-- Values of pairs changed one by one: what a key finds, and what changes of the pairs make.
use Rattle.std.proofs.Common.{◌≡◌, Bool, true, false, cond, List, [], ◌∷◌, ◌++◌, filter, map, Some, refl, ap, ◌∙◌}
use Rattle.std.specs.Prelude.{find}
use Rattle.std.specs.Option.{option_map}
use Rattle.std.specs.Ordering.{is_eq, is_lt, is_gt}
use Rattle.std.specs.declared.cmp.Ordering.{Ordering}
use Rattle.std.proofs.lemmas.List.{map-append}
use Rattle.shared_map.specs.Pairs.{has_key, found}
use Rattle.shared_map.specs.Cuts.{before, behind, at_key}
use Rattle.shared_map.specs.Changes.{put, without}

module _ {K V W : Type 0} (f : V → W) where
  abbrev pub over : List (K × V) → List (K × W)
  over xs = map (λ (pair : K × V). (pair.0, f pair.1)) xs

  over-filter : (t : K → Bool) (xs : List (K × V)) → over (filter (λ (pair : K × V). t pair.0) xs) ≡ filter (λ (pair : K × W). t pair.0) (over xs)
  over-filter t [] = refl
  over-filter t (x ∷ xs) = go (t x.0) (over-filter t xs) where
    go : (b : Bool) → over (filter (λ (pair : K × V). t pair.0) xs) ≡ filter (λ (pair : K × W). t pair.0) (over xs)
        → over (cond b (x ∷ filter (λ (pair : K × V). t pair.0) xs) (filter (λ (pair : K × V). t pair.0) xs))
        ≡ cond b ((x.0, f x.1) ∷ filter (λ (pair : K × W). t pair.0) (over xs)) (filter (λ (pair : K × W). t pair.0) (over xs))
    go true rest = ap (λ ys. (x.0, f x.1) ∷ ys) rest
    go false rest = rest

  module _ (cmp : K → K → Ordering) where
    pub found-over : (key : K) (xs : List (K × V)) → found cmp key (over xs) ≡ option_map f (found cmp key xs)
    found-over key [] = refl
    found-over key (x ∷ xs) = go (is_eq (cmp x.0 key)) (found-over key xs) where
      go : (b : Bool) → found cmp key (over xs) ≡ option_map f (found cmp key xs)
          → option_map (λ (p : K × W). p.1) (cond b (Some (x.0, f x.1)) (find (has_key cmp key) (over xs)))
          ≡ option_map f (option_map (λ (p : K × V). p.1) (cond b (Some x) (find (has_key cmp key) xs)))
      go true rest = refl
      go false rest = rest

    pub over-put : (key : K) (v : V) (xs : List (K × V)) → over (put cmp (key, v) xs) ≡ put cmp (key, f v) (over xs)
    over-put key v xs =
        map-append (λ (pair : K × V). (pair.0, f pair.1)) (before (at_key cmp key) xs) ((key, v) ∷ behind (at_key cmp key) xs)
        ∙ ap (λ ys. ys ++ (key, f v) ∷ over (behind (at_key cmp key) xs)) (over-filter (λ k. is_lt (at_key cmp key k)) xs)
        ∙ ap (λ ys. before (at_key cmp key) (over xs) ++ (key, f v) ∷ ys) (over-filter (λ k. is_gt (at_key cmp key k)) xs)

    pub over-without : (key : K) (xs : List (K × V)) → over (without cmp key xs) ≡ without cmp key (over xs)
    over-without key xs =
        map-append (λ (pair : K × V). (pair.0, f pair.1)) (before (at_key cmp key) xs) (behind (at_key cmp key) xs)
        ∙ ap (λ ys. ys ++ over (behind (at_key cmp key) xs)) (over-filter (λ k. is_lt (at_key cmp key k)) xs)
        ∙ ap (λ ys. before (at_key cmp key) (over xs) ++ ys) (over-filter (λ k. is_gt (at_key cmp key k)) xs)
