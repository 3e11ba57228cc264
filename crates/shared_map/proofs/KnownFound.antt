-- What is found at a key after a change.
use Rattle.std.proofs.Common.{◌≡◌, Bool, true, false, cond, List, [], ◌∷◌, ◌++◌, Option, Some, None, refl, sym, ◌∙◌, ap}
use Rattle.std.specs.Prelude.{find, option_map}
use Rattle.std.specs.Option.{option_or}
use Rattle.std.specs.Cmp.{IsTotalOrder}
use Rattle.std.specs.declared.cmp.Ordering.{Ordering}
use Rattle.std.specs.declared.cmp.Ordering.TheVariants.{Less, Equal, Greater}
use Rattle.std.specs.Ordering.{is_lt, is_eq, is_gt, ordering_reverse}
use Rattle.std.proofs.lemmas.Bool.{false≢true}
use Rattle.std.proofs.lemmas.List.Folds.{find-append}
use Rattle.shared_map.specs.Pairs.{Each, IsSorted, has_key, found}
use Rattle.shared_map.specs.Cuts.{before, behind, at_key}
use Rattle.shared_map.specs.Changes.{put, without, united}
use Rattle.text_words.proofs.KnownFinds.{find_kept}
use Rattle.text_words.proofs.KnownOptions.{or_none}
use Rattle.shared_map.proofs.Lists.{Each-along, filter_all, filter_none, find_none, find_dropped}
use Rattle.shared_map.specs.KeyCut.{is_cut-at_key}
use Rattle.std.proofs.lemmas.Option.{none-some}

is_equal : (o : Ordering) → is_eq o ≡ true → o ≡ Equal
is_equal Less e = absurd (false≢true e)
is_equal Equal e = refl
is_equal Greater e = absurd (false≢true e)

module _ {K V : Type 0} {cmp : K → K → Ordering} (total : IsTotalOrder cmp) where
  -- a pair of the key q lies to key as q does
  as_key : (key q : K) (o : Ordering) → cmp key q ≡ o → (x : K × V) → has_key cmp q x ≡ true → cmp x.0 key ≡ ordering_reverse o
  as_key key q o e x has = total.congr x.0 q key (is_equal (cmp x.0 q) has) ∙ total.antisymm q key ∙ ap ordering_reverse e

  module _ (key q : K) (xs : List (K × V)) where
    -- what a search for q finds before and behind another key
    pub found_before : (o : Ordering) → cmp key q ≡ o
        → find (has_key cmp q) (before (at_key cmp key) xs) ≡ cond (is_gt o) (find (has_key cmp q) xs) None
    found_before Less e = find_dropped (has_key cmp q) (λ p. is_lt (cmp p.0 key)) (λ x has. ap is_lt (as_key key q Less e x has)) xs
    found_before Equal e = find_dropped (has_key cmp q) (λ p. is_lt (cmp p.0 key)) (λ x has. ap is_lt (as_key key q Equal e x has)) xs
    found_before Greater e = find_kept (has_key cmp q) (λ p. is_lt (cmp p.0 key)) xs (λ x has. ap is_lt (as_key key q Greater e x has))

    pub found_behind : (o : Ordering) → cmp key q ≡ o
        → find (has_key cmp q) (behind (at_key cmp key) xs) ≡ cond (is_lt o) (find (has_key cmp q) xs) None
    found_behind Less e = find_kept (has_key cmp q) (λ p. is_gt (cmp p.0 key)) xs (λ x has. ap is_gt (as_key key q Less e x has))
    found_behind Equal e = find_dropped (has_key cmp q) (λ p. is_gt (cmp p.0 key)) (λ x has. ap is_gt (as_key key q Equal e x has)) xs
    found_behind Greater e = find_dropped (has_key cmp q) (λ p. is_gt (cmp p.0 key)) (λ x has. ap is_gt (as_key key q Greater e x has)) xs

  -- two parts of a list, cut at a key, and what stands between them
  between : (key q : K) (xs ys : List (K × V)) (o : Ordering) → cmp key q ≡ o
      → find (has_key cmp q) (before (at_key cmp key) xs ++ ys) ≡ option_or (cond (is_gt o) (find (has_key cmp q) xs) None) (find (has_key cmp q) ys)
  between key q xs ys o e =
      find-append (has_key cmp q) (before (at_key cmp key) xs) ys
      ∙ ap (λ front. option_or front (find (has_key cmp q) ys)) (found_before key q xs o e)

  find_put : (x : K × V) (xs : List (K × V)) (q : K)
      → find (has_key cmp q) (put cmp x xs) ≡ cond (is_eq (cmp x.0 q)) (Some x) (find (has_key cmp q) xs)
  find_put x xs q = go (cmp x.0 q) refl
    where
      go : (o : Ordering) → cmp x.0 q ≡ o
          → find (has_key cmp q) (put cmp x xs) ≡ cond (is_eq o) (Some x) (find (has_key cmp q) xs)
      go Less e =
          between x.0 q xs (x ∷ behind (at_key cmp x.0) xs) Less e
          ∙ ap (λ o. cond (is_eq o) (Some x) (find (has_key cmp q) (behind (at_key cmp x.0) xs))) e ∙ found_behind x.0 q xs Less e
      go Equal e =
          between x.0 q xs (x ∷ behind (at_key cmp x.0) xs) Equal e
          ∙ ap (λ o. cond (is_eq o) (Some x) (find (has_key cmp q) (behind (at_key cmp x.0) xs))) e
      go Greater e =
          between x.0 q xs (x ∷ behind (at_key cmp x.0) xs) Greater e
          ∙ ap (λ o. option_or (find (has_key cmp q) xs) (cond (is_eq o) (Some x) (find (has_key cmp q) (behind (at_key cmp x.0) xs)))) e
          ∙ ap (option_or (find (has_key cmp q) xs)) (found_behind x.0 q xs Greater e) ∙ or_none _

  pub found_put : (x : K × V) (xs : List (K × V)) (q : K) → found cmp q (put cmp x xs) ≡ cond (is_eq (cmp x.0 q)) (Some x.1) (found cmp q xs)
  found_put x xs q = ap (option_map (λ p. p.1)) (find_put x xs q) ∙ go (is_eq (cmp x.0 q))
    where
      go : (b : Bool) → option_map (λ p. p.1) (cond b (Some x) (find (has_key cmp q) xs)) ≡ cond b (Some x.1) (found cmp q xs)
      go true = refl
      go false = refl

  find_without : (key : K) (xs : List (K × V)) (q : K)
      → find (has_key cmp q) (without cmp key xs) ≡ cond (is_eq (cmp key q)) None (find (has_key cmp q) xs)
  find_without key xs q = go (cmp key q) refl
    where
      go : (o : Ordering) → cmp key q ≡ o → find (has_key cmp q) (without cmp key xs) ≡ cond (is_eq o) None (find (has_key cmp q) xs)
      go Less e = between key q xs (behind (at_key cmp key) xs) Less e ∙ found_behind key q xs Less e
      go Equal e = between key q xs (behind (at_key cmp key) xs) Equal e ∙ found_behind key q xs Equal e
      go Greater e =
          between key q xs (behind (at_key cmp key) xs) Greater e
          ∙ ap (option_or (find (has_key cmp q) xs)) (found_behind key q xs Greater e) ∙ or_none _

  pub found_without : (key : K) (xs : List (K × V)) (q : K) → found cmp q (without cmp key xs) ≡ cond (is_eq (cmp key q)) None (found cmp q xs)
  found_without key xs q = ap (option_map (λ p. p.1)) (find_without key xs q) ∙ go (is_eq (cmp key q))
    where
      go : (b : Bool) → option_map (λ p. p.1) (cond b None (find (has_key cmp q) xs)) ≡ cond b None (found cmp q xs)
      go true = refl
      go false = refl

  -- sorted pairs of which none has the key
  pub without_none : (key : K) (xs : List (K × V)) → IsSorted cmp xs → find (has_key cmp key) xs ≡ None → xs ≡ without cmp key xs
  without_none key [] sorted none = refl
  without_none key (x ∷ xs) sorted none = go (cmp x.0 key) refl none (without_none key xs sorted.1)
    where
      all_behind : cmp x.0 key ≡ Greater → Each (λ p. cmp p.0 key ≡ Greater) xs
      all_behind greater =
          Each-along (λ p. cmp x.0 p.0 ≡ Less) (λ p. cmp p.0 key ≡ Greater) (λ p rise. (is_cut-at_key total key).behind x.0 p.0 rise greater) xs sorted.0

      go : (o : Ordering) → cmp x.0 key ≡ o → cond (is_eq o) (Some x) (find (has_key cmp key) xs) ≡ None
          → (find (has_key cmp key) xs ≡ None → xs ≡ without cmp key xs)
          → (x ∷ xs) ≡ cond (is_lt o) (x ∷ before (at_key cmp key) xs) (before (at_key cmp key) xs)
          ++ cond (is_gt o) (x ∷ behind (at_key cmp key) xs) (behind (at_key cmp key) xs)
      go Less e none rest = ap (λ l. x ∷ l) (rest none)
      go Equal e some rest = absurd (none-some x (sym some))
      go Greater e none rest =
          sym
          (ap (λ front. front ++ x ∷ behind (at_key cmp key) xs)
          (filter_none (λ p. is_lt (cmp p.0 key)) xs (Each-along (λ p. cmp p.0 key ≡ Greater) (λ p. is_lt (cmp p.0 key) ≡ false) (λ p g. ap is_lt g) xs (all_behind e)))
          ∙ ap (λ back. x ∷ back)
          (filter_all (λ p. is_gt (cmp p.0 key)) xs (Each-along (λ p. cmp p.0 key ≡ Greater) (λ p. is_gt (cmp p.0 key) ≡ true) (λ p g. ap is_gt g) xs (all_behind e))))

  -- behind a key that is greater than q nothing of q stands
  pub none_above : (key q : K) (xs : List (K × V)) → cmp key q ≡ Greater → Each (λ p. cmp key p.0 ≡ Less) xs → find (has_key cmp q) xs ≡ None
  none_above key q xs e above =
      find_none (has_key cmp q) xs
      (Each-along (λ p. cmp key p.0 ≡ Less) (λ p. has_key cmp q p ≡ false)
      (λ p rise. ap is_eq (total.antisymm p.0 q ∙ ap ordering_reverse (total.trans q key p.0 (total.antisymm q key ∙ ap ordering_reverse e) rise))) xs above)

  pub find_united : (xs ys : List (K × V)) → IsSorted cmp xs → (q : K)
      → find (has_key cmp q) (united cmp xs ys) ≡ option_or (find (has_key cmp q) xs) (find (has_key cmp q) ys)
  find_united [] ys sorted q = refl
  find_united (x ∷ xs) ys sorted q = go (cmp x.0 q) refl (find_united xs (behind (at_key cmp x.0) ys) sorted.1 q)
    where
      go : (o : Ordering) → cmp x.0 q ≡ o
          → find (has_key cmp q) (united cmp xs (behind (at_key cmp x.0) ys))
          ≡ option_or (find (has_key cmp q) xs) (find (has_key cmp q) (behind (at_key cmp x.0) ys))
          → find (has_key cmp q) (before (at_key cmp x.0) ys ++ x ∷ united cmp xs (behind (at_key cmp x.0) ys))
          ≡ option_or (cond (is_eq o) (Some x) (find (has_key cmp q) xs)) (find (has_key cmp q) ys)
      go Less e later =
          between x.0 q ys (x ∷ united cmp xs (behind (at_key cmp x.0) ys)) Less e
          ∙ ap (λ o. cond (is_eq o) (Some x) (find (has_key cmp q) (united cmp xs (behind (at_key cmp x.0) ys)))) e
          ∙ later ∙ ap (option_or (find (has_key cmp q) xs)) (found_behind x.0 q ys Less e)
      go Equal e later =
          between x.0 q ys (x ∷ united cmp xs (behind (at_key cmp x.0) ys)) Equal e
          ∙ ap (λ o. cond (is_eq o) (Some x) (find (has_key cmp q) (united cmp xs (behind (at_key cmp x.0) ys)))) e
      go Greater e later =
          between x.0 q ys (x ∷ united cmp xs (behind (at_key cmp x.0) ys)) Greater e
          ∙ ap (λ o. option_or (find (has_key cmp q) ys) (cond (is_eq o) (Some x) (find (has_key cmp q) (united cmp xs (behind (at_key cmp x.0) ys))))) e
          ∙ ap (option_or (find (has_key cmp q) ys)) (later ∙ ap (option_or (find (has_key cmp q) xs)) (found_behind x.0 q ys Greater e))
          ∙ ap (λ o. option_or (find (has_key cmp q) ys) (option_or o None)) (none_above x.0 q xs e sorted.0)
          ∙ or_none _
          ∙ sym (ap (λ o. option_or o (find (has_key cmp q) ys)) (none_above x.0 q xs e sorted.0))

  pub found_united : (xs ys : List (K × V)) → IsSorted cmp xs → (q : K) → found cmp q (united cmp xs ys) ≡ option_or (found cmp q xs) (found cmp q ys)
  found_united xs ys sorted q = ap (option_map (λ p. p.1)) (find_united xs ys sorted q) ∙ go (find (has_key cmp q) xs)
    where
      go : (o : Option (K × V)) → option_map (λ p. p.1) (option_or o (find (has_key cmp q) ys)) ≡ option_or (option_map (λ p. p.1) o) (found cmp q ys)
      go None = refl
      go (Some x) = refl
