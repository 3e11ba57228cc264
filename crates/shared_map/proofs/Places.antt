-- A cut of sorted pairs, by where the pair in the middle lies.
use Rattle.std.proofs.Common.{◌≡◌, ◌⊎◌, inl, inr, Bool, true, false, cond, List, ◌∷◌, ◌++◌, filter, Some, refl, sym, ◌∙◌, ap, append-nil, append_assoc}
use Rattle.std.specs.Prelude.{find}
use Rattle.std.specs.Option.{option_or}
use Rattle.std.specs.Cmp.{IsTotalOrder}
use Rattle.std.specs.declared.cmp.Ordering.{Ordering}
use Rattle.std.specs.declared.cmp.Ordering.TheVariants.{Less, Equal, Greater}
use Rattle.std.specs.Ordering.{is_lt, is_eq, is_gt, ordering_reverse}
use Rattle.std.proofs.lemmas.Bool.{false≢true}
use Rattle.std.proofs.lemmas.Cmp.{alike_right}
use Rattle.std.proofs.lemmas.List.Elements.{filter-append}
use Rattle.std.proofs.lemmas.List.Folds.{find-append}
use Rattle.shared_map.specs.Pairs.{Each, IsSorted}
use Rattle.shared_map.specs.Cuts.{IsCut, before, behind, at_key}
use Rattle.shared_map.specs.Changes.{put}
use Rattle.shared_map.specs.KeyCut.{is_cut-at_key}
use Rattle.text_words.proofs.KnownOptions.{or_none}
use Rattle.shared_map.proofs.Lists.{Each-along, filter_all, filter_none, find_none}
use Rattle.shared_map.proofs.KnownSorted.{IsFork, fork_of}

not_less : (o p : Ordering) → (p ≡ Less → o ≡ Less) → is_lt o ≡ false → is_lt p ≡ false
not_less o Less so later = absurd (false≢true (sym later ∙ ap is_lt (so refl)))
not_less o Equal so later = refl
not_less o Greater so later = refl

not_greater : (o p : Ordering) → (p ≡ Greater → o ≡ Greater) → is_gt o ≡ false → is_gt p ≡ false
not_greater o Less so earlier = refl
not_greater o Equal so earlier = refl
not_greater o Greater so earlier = absurd (false≢true (sym earlier ∙ ap is_gt (so refl)))

-- an answer that is another's equal
pub later_of : (o p : Ordering) → (o ≡ Equal) ⊎ (o ≡ Greater) → o ≡ p → is_lt p ≡ false
later_of o p (inl equal) e = ap is_lt (sym e ∙ equal)
later_of o p (inr greater) e = ap is_lt (sym e ∙ greater)

pub earlier_of : (o p : Ordering) → (o ≡ Equal) ⊎ (o ≡ Less) → o ≡ p → is_gt p ≡ false
earlier_of o p (inl equal) e = ap is_gt (sym e ∙ equal)
earlier_of o p (inr less) e = ap is_gt (sym e ∙ less)

module _ {K V : Type 0} {cmp : K → K → Ordering} {place : K → Ordering} (cut : IsCut cmp place)
    (all l : List (K × V)) (x : K × V) (r : List (K × V)) (whole : all ≡ l ++ x ∷ r) (sorted : IsSorted cmp all) where
  fork : IsFork cmp l x r
  fork = fork_of cmp all l x r whole sorted

  all_before : place x.0 ≡ Less → Each (λ p. place p.0 ≡ Less) l
  all_before less = Each-along (λ p. cmp p.0 x.0 ≡ Less) (λ p. place p.0 ≡ Less) (λ p rise. cut.before p.0 x.0 rise less) l fork.smaller

  all_behind : place x.0 ≡ Greater → Each (λ p. place p.0 ≡ Greater) r
  all_behind greater = Each-along (λ p. cmp x.0 p.0 ≡ Less) (λ p. place p.0 ≡ Greater) (λ p rise. cut.behind x.0 p.0 rise greater) r fork.greater

  pub before_less : place x.0 ≡ Less → before place all ≡ l ++ x ∷ before place r
  before_less less =
      let f : K × V → Bool = λ p. is_lt (place p.0) in
      ap (filter f) whole
      ∙ filter-append f l (x ∷ r)
      ∙ ap (λ front. front ++ cond (f x) (x ∷ filter f r) (filter f r))
      (filter_all f l (Each-along (λ p. place p.0 ≡ Less) (λ p. f p ≡ true) (λ p e. ap is_lt e) l (all_before less)))
      ∙ ap (λ o. l ++ cond (is_lt o) (x ∷ filter f r) (filter f r)) less

  pub before_later : is_lt (place x.0) ≡ false → before place all ≡ before place l
  before_later later =
      let f : K × V → Bool = λ p. is_lt (place p.0) in
      ap (filter f) whole
      ∙ filter-append f l (x ∷ r)
      ∙ ap (λ b. filter f l ++ cond b (x ∷ filter f r) (filter f r)) later
      ∙ ap (λ back. filter f l ++ back)
      (filter_none f r (Each-along (λ p. cmp x.0 p.0 ≡ Less) (λ p. f p ≡ false) (λ p rise. not_less (place x.0) (place p.0) (cut.before x.0 p.0 rise) later) r fork.greater))
      ∙ append-nil _

  pub behind_greater : place x.0 ≡ Greater → behind place all ≡ behind place l ++ x ∷ r
  behind_greater greater =
      let f : K × V → Bool = λ p. is_gt (place p.0) in
      ap (filter f) whole
      ∙ filter-append f l (x ∷ r)
      ∙ ap (λ o. filter f l ++ cond (is_gt o) (x ∷ filter f r) (filter f r)) greater
      ∙ ap (λ back. filter f l ++ x ∷ back)
      (filter_all f r (Each-along (λ p. place p.0 ≡ Greater) (λ p. f p ≡ true) (λ p e. ap is_gt e) r (all_behind greater)))

  pub behind_earlier : is_gt (place x.0) ≡ false → behind place all ≡ behind place r
  behind_earlier earlier =
      let f : K × V → Bool = λ p. is_gt (place p.0) in
      ap (filter f) whole
      ∙ filter-append f l (x ∷ r)
      ∙ ap (λ b. filter f l ++ cond b (x ∷ filter f r) (filter f r)) earlier
      ∙ ap (λ front. front ++ filter f r)
      (filter_none f l (Each-along (λ p. cmp p.0 x.0 ≡ Less) (λ p. f p ≡ false) (λ p rise. not_greater (place x.0) (place p.0) (cut.behind p.0 x.0 rise) earlier) l fork.smaller))

  pub first_less : place x.0 ≡ Less → find (λ p. is_eq (place p.0)) all ≡ find (λ p. is_eq (place p.0)) r
  first_less less =
      let f : K × V → Bool = λ p. is_eq (place p.0) in
      ap (find f) whole
      ∙ find-append f l (x ∷ r)
      ∙ ap (λ front. option_or front (find f (x ∷ r)))
      (find_none f l (Each-along (λ p. place p.0 ≡ Less) (λ p. f p ≡ false) (λ p e. ap is_eq e) l (all_before less)))
      ∙ ap (λ o. cond (is_eq o) (Some x) (find f r)) less

  pub first_greater : place x.0 ≡ Greater → find (λ p. is_eq (place p.0)) all ≡ find (λ p. is_eq (place p.0)) l
  first_greater greater =
      let f : K × V → Bool = λ p. is_eq (place p.0) in
      ap (find f) whole
      ∙ find-append f l (x ∷ r)
      ∙ ap (λ o. option_or (find f l) (cond (is_eq o) (Some x) (find f r))) greater
      ∙ ap (option_or (find f l))
      (find_none f r (Each-along (λ p. place p.0 ≡ Greater) (λ p. f p ≡ false) (λ p e. ap is_eq e) r (all_behind greater)))
      ∙ or_none (find f l)

  pub first_equal : place x.0 ≡ Equal → find (λ p. is_eq (place p.0)) all ≡ option_or (find (λ p. is_eq (place p.0)) l) (Some x)
  first_equal equal =
      let f : K × V → Bool = λ p. is_eq (place p.0) in
      ap (find f) whole
      ∙ find-append f l (x ∷ r)
      ∙ ap (λ o. option_or (find f l) (cond (is_eq o) (Some x) (find f r))) equal

module _ {K V : Type 0} {cmp : K → K → Ordering} (total : IsTotalOrder cmp)
    (all l : List (K × V)) (x : K × V) (r : List (K × V)) (whole : all ≡ l ++ x ∷ r) (sorted : IsSorted cmp all) (p : K × V) where
  pub put_less : cmp x.0 p.0 ≡ Less → put cmp p all ≡ l ++ x ∷ put cmp p r
  put_less less =
      let cut : IsCut cmp (at_key cmp p.0) = is_cut-at_key total p.0 in
      ap (λ front. front ++ p ∷ behind (at_key cmp p.0) all) (before_less cut all l x r whole sorted less)
      ∙ ap (λ back. (l ++ x ∷ before (at_key cmp p.0) r) ++ p ∷ back) (behind_earlier cut all l x r whole sorted (ap is_gt less))
      ∙ append_assoc l (x ∷ before (at_key cmp p.0) r) (p ∷ behind (at_key cmp p.0) r)

  pub put_greater : cmp x.0 p.0 ≡ Greater → put cmp p all ≡ put cmp p l ++ x ∷ r
  put_greater greater =
      let cut : IsCut cmp (at_key cmp p.0) = is_cut-at_key total p.0 in
      ap (λ front. front ++ p ∷ behind (at_key cmp p.0) all) (before_later cut all l x r whole sorted (ap is_lt greater))
      ∙ ap (λ back. before (at_key cmp p.0) l ++ p ∷ back) (behind_greater cut all l x r whole sorted greater)
      ∙ sym (append_assoc (before (at_key cmp p.0) l) (p ∷ behind (at_key cmp p.0) l) (x ∷ r))

  pub put_equal : cmp x.0 p.0 ≡ Equal → put cmp p all ≡ l ++ p ∷ r
  put_equal equal =
      let cut : IsCut cmp (at_key cmp p.0) = is_cut-at_key total p.0 in
      ap (λ front. front ++ p ∷ behind (at_key cmp p.0) all)
      (before_later cut all l x r whole sorted (ap is_lt equal)
      ∙ filter_all (λ q. is_lt (cmp q.0 p.0)) l (Each-along (λ q. cmp q.0 x.0 ≡ Less) (λ q. is_lt (cmp q.0 p.0) ≡ true)
      (λ q rise. ap is_lt (sym (alike_right total x.0 p.0 q.0 equal) ∙ rise)) l (fork_of cmp all l x r whole sorted).smaller))
      ∙ ap (λ back. l ++ p ∷ back)
      (behind_earlier cut all l x r whole sorted (ap is_gt equal)
      ∙ filter_all (λ q. is_gt (cmp q.0 p.0)) r (Each-along (λ q. cmp x.0 q.0 ≡ Less) (λ q. is_gt (cmp q.0 p.0) ≡ true)
      (λ q rise. ap is_gt (sym (alike_right total x.0 p.0 q.0 equal) ∙ total.antisymm q.0 x.0 ∙ ap ordering_reverse rise)) r (fork_of cmp all l x r whole sorted).greater))
