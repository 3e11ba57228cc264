-- Two lists of pairs of the same keys, place by place; and sorted lists.
use Rattle.std.proofs.Common.{◌≡◌, suc, Bool, true, false, cond, List, [], ◌∷◌, ◌++◌, length, filter, Some, None, refl, sym, ap, ◌∙◌}
use Rattle.std.specs.Prelude.{find}
use Rattle.std.specs.Option.{option_map, option_or}
use Rattle.std.specs.List.{AllZip}
use Rattle.std.specs.Cmp.{IsTotalOrder}
use Rattle.std.specs.Ordering.{is_eq, is_lt, is_gt, ordering_reverse}
use Rattle.std.specs.declared.cmp.Ordering.{Ordering}
use Rattle.std.specs.declared.cmp.Ordering.TheVariants.{Less, Equal, Greater}
use Rattle.std.proofs.lemmas.Bool.{false≢true}
use Rattle.std.proofs.lemmas.Cmp.{tied_itself}
use Rattle.std.proofs.lemmas.List.Folds.{find-append}
use Rattle.std.proofs.lemmas.List.Elements.{filter-append}
use Rattle.std.proofs.lemmas.List.{append-nil}
use Rattle.shared_map.specs.Pairs.{Each, IsSorted, has_key, found}
use Rattle.shared_map.specs.Cuts.{before, behind, at_key}
use Rattle.shared_map.specs.Changes.{put, without}
use Rattle.shared_map.proofs.KnownSorted.{IsFork, fork_of}

module _ {X Y : Type 0} (R : X → Y → Type 0) where
  pub AllZip-append : (xs zs : List X) (ys ws : List Y) → AllZip R xs ys → AllZip R zs ws → AllZip R (xs ++ zs) (ys ++ ws)
  AllZip-append [] zs [] ws all more = more
  AllZip-append [] zs (y ∷ ys) ws all more = absurd all
  AllZip-append (x ∷ xs) zs [] ws all more = absurd all
  AllZip-append (x ∷ xs) zs (y ∷ ys) ws all more = (all.0, AllZip-append xs zs ys ws all.1 more)

  pub AllZip-along : (Q : X → Y → Type 0) → ((x : X) (y : Y) → R x y → Q x y) → (xs : List X) (ys : List Y) → AllZip R xs ys → AllZip Q xs ys
  AllZip-along Q so [] [] all = tt
  AllZip-along Q so [] (y ∷ ys) all = absurd all
  AllZip-along Q so (x ∷ xs) [] all = absurd all
  AllZip-along Q so (x ∷ xs) (y ∷ ys) all = (so x y all.0, AllZip-along Q so xs ys all.1)

  pub AllZip-length : (xs : List X) (ys : List Y) → AllZip R xs ys → length xs ≡ length ys
  AllZip-length [] [] all = refl
  AllZip-length [] (y ∷ ys) all = absurd all
  AllZip-length (x ∷ xs) [] all = absurd all
  AllZip-length (x ∷ xs) (y ∷ ys) all = ap (λ n. suc n) (AllZip-length xs ys all.1)

-- pairs of the same keys
module _ {K V W : Type 0} (Q : K × V → K × W → Type 0) (same : (x : K × V) (y : K × W) → Q x y → x.0 ≡ y.0) where
  AllZip-filter : (t : K → Bool) (xs : List (K × V)) (ys : List (K × W)) → AllZip Q xs ys
      → AllZip Q (filter (λ (p : K × V). t p.0) xs) (filter (λ (p : K × W). t p.0) ys)
  AllZip-filter t [] [] all = tt
  AllZip-filter t [] (y ∷ ys) all = absurd all
  AllZip-filter t (x ∷ xs) [] all = absurd all
  AllZip-filter t (x ∷ xs) (y ∷ ys) all = go (t x.0) (t y.0) (ap t (same x y all.0)) (AllZip-filter t xs ys all.1) where
    go : (b c : Bool) → b ≡ c → AllZip Q (filter (λ (p : K × V). t p.0) xs) (filter (λ (p : K × W). t p.0) ys)
        → AllZip Q (cond b (x ∷ filter (λ (p : K × V). t p.0) xs) (filter (λ (p : K × V). t p.0) xs))
        (cond c (y ∷ filter (λ (p : K × W). t p.0) ys) (filter (λ (p : K × W). t p.0) ys))
    go true true e rest = (all.0, rest)
    go true false e rest = absurd (false≢true (sym e))
    go false true e rest = absurd (false≢true e)
    go false false e rest = rest

  module _ (cmp : K → K → Ordering) where
    pub AllZip-put : (key : K) (v : V) (w : W) (xs : List (K × V)) (ys : List (K × W)) → Q (key, v) (key, w) → AllZip Q xs ys
        → AllZip Q (put cmp (key, v) xs) (put cmp (key, w) ys)
    AllZip-put key v w xs ys one all =
        AllZip-append Q (before (at_key cmp key) xs) ((key, v) ∷ behind (at_key cmp key) xs)
        (before (at_key cmp key) ys) ((key, w) ∷ behind (at_key cmp key) ys)
        (AllZip-filter (λ k. is_lt (at_key cmp key k)) xs ys all)
        (one, AllZip-filter (λ k. is_gt (at_key cmp key k)) xs ys all)

    pub AllZip-without : (key : K) (xs : List (K × V)) (ys : List (K × W)) → AllZip Q xs ys
        → AllZip Q (without cmp key xs) (without cmp key ys)
    AllZip-without key xs ys all =
        AllZip-append Q (before (at_key cmp key) xs) (behind (at_key cmp key) xs)
        (before (at_key cmp key) ys) (behind (at_key cmp key) ys)
        (AllZip-filter (λ k. is_lt (at_key cmp key k)) xs ys all)
        (AllZip-filter (λ k. is_gt (at_key cmp key k)) xs ys all)

module _ {K V : Type 0} {cmp : K → K → Ordering} (total : IsTotalOrder cmp) where
  none_smaller : (key : K) (l : List (K × V)) → Each (λ p. cmp p.0 key ≡ Less) l → find (has_key cmp key) l ≡ None
  none_smaller key [] all = refl
  none_smaller key (p ∷ l) all =
      ap (λ o. cond (is_eq o) (Some p) (find (has_key cmp key) l)) all.0 ∙ none_smaller key l all.1

  -- a sorted list finds each of its pairs
  pub found_at : (l : List (K × V)) (x : K × V) (r : List (K × V)) → IsSorted cmp (l ++ x ∷ r)
      → found cmp x.0 (l ++ x ∷ r) ≡ Some x.1
  found_at l x r sorted =
      let fork : IsFork cmp l x r = fork_of cmp (l ++ x ∷ r) l x r refl sorted in
      ap (option_map (λ (p : K × V). p.1))
      (find-append (has_key cmp x.0) l (x ∷ r)
      ∙ ap (λ o. option_or o (find (has_key cmp x.0) (x ∷ r))) (none_smaller x.0 l fork.smaller)
      ∙ ap (λ o. cond (is_eq o) (Some x) (find (has_key cmp x.0) r)) (tied_itself total x.0))

  kept_smaller : (key : K) (l : List (K × V)) → Each (λ p. cmp p.0 key ≡ Less) l
      → (before (at_key cmp key) l ≡ l) × (behind (at_key cmp key) l ≡ [])
  kept_smaller key [] all = (refl, refl)
  kept_smaller key (p ∷ l) all =
      let rest = kept_smaller key l all.1 in (
        ap (λ o. cond (is_lt o) (p ∷ before (at_key cmp key) l) (before (at_key cmp key) l)) all.0 ∙ ap (λ ps. p ∷ ps) rest.0,
        ap (λ o. cond (is_gt o) (p ∷ behind (at_key cmp key) l) (behind (at_key cmp key) l)) all.0 ∙ rest.1,
      )

  kept_greater : (key : K) (r : List (K × V)) → Each (λ p. cmp key p.0 ≡ Less) r
      → (before (at_key cmp key) r ≡ []) × (behind (at_key cmp key) r ≡ r)
  kept_greater key [] all = (refl, refl)
  kept_greater key (p ∷ r) all =
      let greater : cmp p.0 key ≡ Greater = total.antisymm p.0 key ∙ ap ordering_reverse all.0 in
      let rest = kept_greater key r all.1 in (
        ap (λ o. cond (is_lt o) (p ∷ before (at_key cmp key) r) (before (at_key cmp key) r)) greater ∙ rest.0,
        ap (λ o. cond (is_gt o) (p ∷ behind (at_key cmp key) r) (behind (at_key cmp key) r)) greater ∙ ap (λ ps. p ∷ ps) rest.1,
      )

  -- a pair that is put takes the place of the pair of its key
  pub put_at : (l : List (K × V)) (x : K × V) (v : V) (r : List (K × V)) → IsSorted cmp (l ++ x ∷ r)
      → put cmp (x.0, v) (l ++ x ∷ r) ≡ l ++ (x.0, v) ∷ r
  put_at l x v r sorted =
      let fork : IsFork cmp l x r = fork_of cmp (l ++ x ∷ r) l x r refl sorted in
      let small = kept_smaller x.0 l fork.smaller in
      let great = kept_greater x.0 r fork.greater in
      let tied : cmp x.0 x.0 ≡ Equal = tied_itself total x.0 in
      let fronts : before (at_key cmp x.0) (l ++ x ∷ r) ≡ l ++ [] =
      filter-append (λ (p : K × V). is_lt (cmp p.0 x.0)) l (x ∷ r)
      ∙ ap (λ ps. ps ++ before (at_key cmp x.0) (x ∷ r)) small.0
      ∙ ap (λ ps. l ++ ps) (ap (λ o. cond (is_lt o) (x ∷ before (at_key cmp x.0) r) (before (at_key cmp x.0) r)) tied ∙ great.0)
      in
      let backs : behind (at_key cmp x.0) (l ++ x ∷ r) ≡ r =
      filter-append (λ (p : K × V). is_gt (cmp p.0 x.0)) l (x ∷ r)
      ∙ ap (λ ps. ps ++ behind (at_key cmp x.0) (x ∷ r)) small.1
      ∙ ap (λ o. cond (is_gt o) (x ∷ behind (at_key cmp x.0) r) (behind (at_key cmp x.0) r)) tied ∙ great.1
      in
      ap (λ ps. ps ++ (x.0, v) ∷ behind (at_key cmp x.0) (l ++ x ∷ r)) fronts
      ∙ ap (λ ps. ps ++ (x.0, v) ∷ behind (at_key cmp x.0) (l ++ x ∷ r)) (append-nil l)
      ∙ ap (λ ps. l ++ (x.0, v) ∷ ps) backs
