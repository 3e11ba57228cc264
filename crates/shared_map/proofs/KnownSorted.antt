-- Sorted pairs: taken apart at one of them, and put together.
use Rattle.std.proofs.Common.{◌≡◌, ◌<◌, Bool, true, false, cond, refl, List, [], ◌∷◌, ◌++◌, length, filter, ◌∙◌, ap, subst, arith, length-append}
use Rattle.std.specs.Cmp.{IsTotalOrder}
use Rattle.std.specs.declared.cmp.Ordering.{Ordering}
use Rattle.std.specs.declared.cmp.Ordering.TheVariants.{Less, Equal, Greater}
use Rattle.std.specs.Ordering.{is_lt, is_gt, ordering_reverse}
use Rattle.shared_map.specs.Pairs.{Each, IsSorted}
use Rattle.shared_map.specs.Cuts.{before, behind, at_key}
use Rattle.shared_map.specs.Changes.{put, without, united}
use Rattle.shared_map.proofs.Lists.{Each-append, Each-front, Each-back, Each-filter, Each-along, Each-passed}

-- l, x and r are sorted together
pub record IsFork {K V : Type 0} (cmp : K → K → Ordering) (l : List (K × V)) (x : K × V) (r : List (K × V)) : Type 0 where
  pub left : IsSorted cmp l
  pub right : IsSorted cmp r
  pub smaller : Each (λ p. cmp p.0 x.0 ≡ Less) l
  pub greater : Each (λ p. cmp x.0 p.0 ≡ Less) r

module _ {K V : Type 0} (cmp : K → K → Ordering) where
  forked : (l : List (K × V)) (x : K × V) (r : List (K × V)) → IsSorted cmp (l ++ x ∷ r) → IsFork cmp l x r
  forked [] x r sorted = record { left = tt; right = sorted.1; smaller = tt; greater = sorted.0 }
  forked (y ∷ l) x r sorted =
      let rest = forked l x r sorted.1 in
      record {
        left = (Each-front (λ p. cmp y.0 p.0 ≡ Less) l (x ∷ r) sorted.0, rest.left);
        right = rest.right;
        smaller = ((Each-back (λ p. cmp y.0 p.0 ≡ Less) l (x ∷ r) sorted.0).0, rest.smaller);
        greater = rest.greater;
      }

  pub fork_of : (all l : List (K × V)) (x : K × V) (r : List (K × V)) → all ≡ l ++ x ∷ r → IsSorted cmp all → IsFork cmp l x r
  fork_of all l x r e sorted = forked l x r (subst (IsSorted cmp) e sorted)

  -- each part is sorted and shorter than the whole
  pub left_of : (all l : List (K × V)) (x : K × V) (r : List (K × V)) → all ≡ l ++ x ∷ r → IsSorted cmp all → IsSorted cmp l × (length l < length all)
  left_of all l x r e sorted = ((fork_of all l x r e sorted).left, omega (arith, ap length e, length-append l (x ∷ r)))

  pub right_of : (all l : List (K × V)) (x : K × V) (r : List (K × V)) → all ≡ l ++ x ∷ r → IsSorted cmp all → IsSorted cmp r × (length r < length all)
  right_of all l x r e sorted = ((fork_of all l x r e sorted).right, omega (arith, ap length e, length-append l (x ∷ r)))

  pub IsSorted-filter : (f : K × V → Bool) (xs : List (K × V)) → IsSorted cmp xs → IsSorted cmp (filter f xs)
  IsSorted-filter f [] sorted = tt
  IsSorted-filter f (x ∷ xs) sorted =
      go (f x) (Each-filter (λ p. cmp x.0 p.0 ≡ Less) f xs sorted.0) (IsSorted-filter f xs sorted.1)
    where
      go : (b : Bool) → Each (λ p. cmp x.0 p.0 ≡ Less) (filter f xs) → IsSorted cmp (filter f xs)
          → IsSorted cmp (cond b (x ∷ filter f xs) (filter f xs))
      go true above rest = (above, rest)
      go false above rest = rest

  pub Each-united : (P : K × V → Type 0) (xs ys : List (K × V)) → Each P xs → Each P ys → Each P (united cmp xs ys)
  Each-united P [] ys all more = more
  Each-united P (x ∷ xs) ys all more =
      Each-append P (before (at_key cmp x.0) ys) (x ∷ united cmp xs (behind (at_key cmp x.0) ys))
      (Each-filter P _ ys more) (all.0, Each-united P xs _ all.1 (Each-filter P _ ys more))

pub is_less : (o : Ordering) → is_lt o ≡ true → o ≡ Less
is_less Less e = refl
is_less Equal e = cc
is_less Greater e = cc

pub is_greater : (o : Ordering) → is_gt o ≡ true → o ≡ Greater
is_greater Less e = cc
is_greater Equal e = cc
is_greater Greater e = refl

module _ {K V : Type 0} {cmp : K → K → Ordering} (total : IsTotalOrder cmp) where
  -- a key between two lists keeps them apart
  pub IsSorted-between : (l : List (K × V)) (key : K) (r : List (K × V)) → IsSorted cmp l → IsSorted cmp r
      → Each (λ p. cmp p.0 key ≡ Less) l → Each (λ p. cmp key p.0 ≡ Less) r → IsSorted cmp (l ++ r)
  IsSorted-between [] key r sorted more smaller greater = more
  IsSorted-between (x ∷ l) key r sorted more smaller greater = (
    Each-append (λ p. cmp x.0 p.0 ≡ Less) l r sorted.0
        (Each-along (λ p. cmp key p.0 ≡ Less) (λ p. cmp x.0 p.0 ≡ Less) (λ p above. total.trans x.0 key p.0 smaller.0 above) r greater),
    IsSorted-between l key r sorted.1 more smaller.1 greater,
  )

  pub IsSorted-fork : (l : List (K × V)) (x : K × V) (r : List (K × V)) → IsFork cmp l x r → IsSorted cmp (l ++ x ∷ r)
  IsSorted-fork [] x r fork = (fork.greater, fork.right)
  IsSorted-fork (y ∷ l) x r fork = (
    Each-append (λ p. cmp y.0 p.0 ≡ Less) l (x ∷ r) fork.left.0 (
      fork.smaller.0,
      Each-along (λ p. cmp x.0 p.0 ≡ Less) (λ p. cmp y.0 p.0 ≡ Less) (λ p above. total.trans y.0 x.0 p.0 fork.smaller.0 above) r fork.greater,
    ),
    IsSorted-fork l x r (record { left = fork.left.1; right = fork.right; smaller = fork.smaller.1; greater = fork.greater }),
  )

  smaller_before : (key : K) (xs : List (K × V)) → Each (λ p. cmp p.0 key ≡ Less) (before (at_key cmp key) xs)
  smaller_before key xs =
      Each-along (λ p. is_lt (cmp p.0 key) ≡ true) (λ p. cmp p.0 key ≡ Less) (λ p less. is_less (cmp p.0 key) less)
      (before (at_key cmp key) xs) (Each-passed (λ p. is_lt (cmp p.0 key)) xs)

  greater_behind : (key : K) (xs : List (K × V)) → Each (λ p. cmp key p.0 ≡ Less) (behind (at_key cmp key) xs)
  greater_behind key xs =
      Each-along (λ p. is_gt (cmp p.0 key) ≡ true) (λ p. cmp key p.0 ≡ Less)
      (λ p greater. total.antisymm key p.0 ∙ ap ordering_reverse (is_greater (cmp p.0 key) greater))
      (behind (at_key cmp key) xs) (Each-passed (λ p. is_gt (cmp p.0 key)) xs)

  pub IsSorted-put : (x : K × V) (xs : List (K × V)) → IsSorted cmp xs → IsSorted cmp (put cmp x xs)
  IsSorted-put x xs sorted =
      IsSorted-fork (before (at_key cmp x.0) xs) x (behind (at_key cmp x.0) xs) (record {
        left = IsSorted-filter cmp _ xs sorted;
        right = IsSorted-filter cmp _ xs sorted;
        smaller = smaller_before x.0 xs;
        greater = greater_behind x.0 xs;
      })

  pub IsSorted-without : (key : K) (xs : List (K × V)) → IsSorted cmp xs → IsSorted cmp (without cmp key xs)
  IsSorted-without key xs sorted =
      IsSorted-between (before (at_key cmp key) xs) key (behind (at_key cmp key) xs)
      (IsSorted-filter cmp _ xs sorted) (IsSorted-filter cmp _ xs sorted) (smaller_before key xs) (greater_behind key xs)

  pub IsSorted-united : (xs ys : List (K × V)) → IsSorted cmp xs → IsSorted cmp ys → IsSorted cmp (united cmp xs ys)
  IsSorted-united [] ys sorted more = more
  IsSorted-united (x ∷ xs) ys sorted more =
      IsSorted-fork (before (at_key cmp x.0) ys) x (united cmp xs (behind (at_key cmp x.0) ys)) (record {
        left = IsSorted-filter cmp _ ys more;
        right = IsSorted-united xs _ sorted.1 (IsSorted-filter cmp _ ys more);
        smaller = smaller_before x.0 ys;
        greater = Each-united cmp (λ p. cmp x.0 p.0 ≡ Less) xs _ sorted.0 (greater_behind x.0 ys);
      })
