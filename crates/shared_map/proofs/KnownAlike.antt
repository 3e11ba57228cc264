-- Sorted pairs in which each key is found alike are the same.
use Rattle.std.proofs.Common.{◌≡◌, false, cond, List, [], ◌∷◌, Some, None, refl, sym, ◌∙◌, ap}
use Rattle.std.specs.Prelude.{find}
use Rattle.std.specs.Cmp.{IsTotalOrder}
use Rattle.std.specs.declared.cmp.Ordering.{Ordering}
use Rattle.std.specs.declared.cmp.Ordering.TheVariants.{Less, Equal, Greater}
use Rattle.std.specs.Ordering.{is_eq, ordering_reverse}
use Rattle.std.proofs.lemmas.Cmp.{alike_right, tied_itself}
use Rattle.shared_map.specs.Pairs.{Each, IsSorted, has_key}
use Rattle.shared_map.proofs.Lists.{Each-along, find_none}
use Rattle.shared_map.proofs.KnownFound.{none_above}
use Rattle.std.proofs.lemmas.Option.{none-some}

module _ {K V : Type 0} {cmp : K → K → Ordering} (total : IsTotalOrder cmp) where
  -- no pair behind a key has that key
  none_past : (key q : K) (xs : List (K × V)) → cmp key q ≡ Equal → Each (λ p. cmp key p.0 ≡ Less) xs → find (has_key cmp q) xs ≡ None
  none_past key q xs e above =
      find_none (has_key cmp q) xs
      (Each-along (λ p. cmp key p.0 ≡ Less) (λ p. has_key cmp q p ≡ false)
      (λ p rise. ap is_eq (sym (alike_right total key q p.0 e) ∙ total.antisymm p.0 key ∙ ap ordering_reverse rise)) xs above)

  -- a sorted list has no pair of a key before its first
  none_of_less : (q : K) (y : K × V) (ys : List (K × V)) → cmp q y.0 ≡ Less → IsSorted cmp (y ∷ ys) → find (has_key cmp q) (y ∷ ys) ≡ None
  none_of_less q y ys less sorted =
      let greater : cmp y.0 q ≡ Greater = total.antisymm y.0 q ∙ ap ordering_reverse less in
      ap (λ o. cond (is_eq o) (Some y) (find (has_key cmp q) ys)) greater ∙ none_above total y.0 q ys greater sorted.0

  first_found : (x : K × V) (xs : List (K × V)) → find (has_key cmp x.0) (x ∷ xs) ≡ Some x
  first_found x xs = ap (λ o. cond (is_eq o) (Some x) (find (has_key cmp x.0) xs)) (tied_itself total x.0)

  -- sorted lists in which each key is found alike are the same
  pub same_pairs : (xs ys : List (K × V)) → IsSorted cmp xs → IsSorted cmp ys
      → ((q : K) → find (has_key cmp q) xs ≡ find (has_key cmp q) ys) → xs ≡ ys
  same_pairs [] [] sorted more alike = refl
  same_pairs [] (y ∷ ys) sorted more alike = absurd (none-some y (alike y.0 ∙ first_found y ys))
  same_pairs (x ∷ xs) [] sorted more alike = absurd (none-some x (sym (alike x.0) ∙ first_found x xs))
  same_pairs (x ∷ xs) (y ∷ ys) sorted more alike = go (cmp x.0 y.0) refl (same_pairs xs ys sorted.1 more.1)
    where
      go : (o : Ordering) → cmp x.0 y.0 ≡ o → (((q : K) → find (has_key cmp q) xs ≡ find (has_key cmp q) ys) → xs ≡ ys) → (x ∷ xs) ≡ (y ∷ ys)
      go Less e rest = absurd (none-some x (sym (none_of_less x.0 y ys e more) ∙ sym (alike x.0) ∙ first_found x xs))
      go Greater e rest =
          absurd (none-some y (sym (none_of_less y.0 x xs (total.antisymm y.0 x.0 ∙ ap ordering_reverse e) sorted) ∙ alike y.0 ∙ first_found y ys))
      go Equal e rest =
          let back : cmp y.0 x.0 ≡ Equal = total.antisymm y.0 x.0 ∙ ap ordering_reverse e in
          let found : Some x ≡ Some y =
          sym (first_found x xs) ∙ alike x.0 ∙ ap (λ o. cond (is_eq o) (Some y) (find (has_key cmp x.0) ys)) back in
          let same : x ≡ y = cc in
          let tails : (q : K) → find (has_key cmp q) xs ≡ find (has_key cmp q) ys = λ q. tail q (cmp x.0 q) refl same in
          ap (λ z. z ∷ xs) same ∙ ap (λ l. y ∷ l) (rest tails)
        where
          tail : (q : K) (o : Ordering) → cmp x.0 q ≡ o → x ≡ y → find (has_key cmp q) xs ≡ find (has_key cmp q) ys
          tail q Equal h same =
              none_past x.0 q xs h sorted.0 ∙ sym (none_past y.0 q ys (ap (λ z. cmp z.0 q) (sym same) ∙ h) more.0)
          tail q Less h same =
              sym (ap (λ o. cond (is_eq o) (Some x) (find (has_key cmp q) xs)) h) ∙ alike q
              ∙ ap (λ o. cond (is_eq o) (Some y) (find (has_key cmp q) ys)) (ap (λ z. cmp z.0 q) (sym same) ∙ h)
          tail q Greater h same =
              sym (ap (λ o. cond (is_eq o) (Some x) (find (has_key cmp q) xs)) h) ∙ alike q
              ∙ ap (λ o. cond (is_eq o) (Some y) (find (has_key cmp q) ys)) (ap (λ z. cmp z.0 q) (sym same) ∙ h)
