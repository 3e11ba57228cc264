-- What rises is told by the order of its members, and has each once; joining and taking out keep that.
use Rattle.std.proofs.Common.{◌≡◌, ◌≢◌, ◌≤◌, ℕ, length, map, drop, Bool, true, false, ◌&&◌, cond, ◌↔◌, IsTrue, List, [], ◌∷◌, ◌++◌, refl, ap, sym, subst, ◌∙◌, inl, inr, ⊎_elim}
use Rattle.std.specs.List.{list_all}
use Rattle.std.specs.Ordering.{is_lt}
use Rattle.std.specs.declared.cmp.Ordering.{Ordering}
use Rattle.std.specs.declared.cmp.Ordering.TheVariants.{Less, Equal, Greater}
use Rattle.std.proofs.lemmas.List.{append-nil, drop_all}
use Rattle.nj_formula.specs.declared.formula.Formula.{Formula}
use Rattle.nj_formula.specs.Meaning.{meaning}
use Rattle.nj_formula.specs.Statement.{Statement}
use Rattle.nj_kernel.specs.Sets.{members, Once, Lists, ◌∖◌}
use Rattle.nj_kernel.specs.Order.{order, rises}
use Rattle.nj_kernel.proofs.OrderLemmas.{equal_is, itself, chain, turned}
use Rattle.nj_kernel.proofs.JoinLemmas.{joined, joined_less, joined_equal, joined_greater, joins}

both : (x y : Bool) → IsTrue x → IsTrue y → IsTrue (x && y)
both true y p q = q
both false y p q = p

first : (x y : Bool) → IsTrue (x && y) → IsTrue x
first true y p = refl
first false y p = p

second : (x y : Bool) → IsTrue (x && y) → IsTrue y
second true y p = p
second false y p = cc

less_is : (r : Ordering) → IsTrue (is_lt r) → r ≡ Less
less_is Less h = refl
less_is Equal h = cc
less_is Greater h = cc

-- each member stands after a
abbrev Above : Statement → List Statement → Type 0
Above a s = (f : Statement) → members s f → order a f ≡ Less

above_from : (a : Statement) (s : List Statement) → IsTrue (list_all (λ b. is_lt (order a b)) s) → Above a s
above_from a [] h f m = elim m [ ]
above_from a (b ∷ s) h f (inl e) = subst (λ g. order a g ≡ Less) e (less_is (order a b) (first (is_lt (order a b)) (list_all (λ b. is_lt (order a b)) s) h))
above_from a (b ∷ s) h f (inr m) = above_from a s (second (is_lt (order a b)) (list_all (λ b. is_lt (order a b)) s) h) f m

above_to : (a : Statement) (s : List Statement) → Above a s → IsTrue (list_all (λ b. is_lt (order a b)) s)
above_to a [] h = refl
above_to a (b ∷ s) h = both (is_lt (order a b)) (list_all (λ b. is_lt (order a b)) s) (ap is_lt (h b (inl refl))) (above_to a s (λ f m. h f (inr m)))

pub head_rises : (a : Statement) (s : List Statement) → IsTrue (rises (a ∷ s)) → Above a s
head_rises a s h = above_from a s (first (list_all (λ b. is_lt (order a b)) s) (rises s) h)

pub tail_rises : (a : Statement) (s : List Statement) → IsTrue (rises (a ∷ s)) → IsTrue (rises s)
tail_rises a s h = second (list_all (λ b. is_lt (order a b)) s) (rises s) h

pub rises_on : (a : Statement) (s : List Statement) → Above a s → IsTrue (rises s) → IsTrue (rises (a ∷ s))
rises_on a s h r = both (list_all (λ b. is_lt (order a b)) s) (rises s) (above_to a s h) r

-- what rises has each member once
pub rises_once : (s : List Statement) → IsTrue (rises s) → Once s
rises_once [] h = tt
rises_once (a ∷ s) h = (λ m. let e : order a a ≡ Less = head_rises a s h a m in let f : order a a ≡ Equal = itself a in cc, rises_once s (tail_rises a s h))

-- a before b, and all after b
above_more : (a b : Statement) (t : List Statement) → order a b ≡ Less → Above b t → Above a (b ∷ t)
above_more a b t e h f (inl same) = subst (λ g. order a g ≡ Less) same e
above_more a b t e h f (inr m) = chain a b f e (h f m)

above_joined : (a : Statement) (s t : List Statement) → Above a s → Above a t → Above a (joined s t)
above_joined a s t h k f m = ⊎_elim (h f) (k f) ((joins s t f).0 m)

module _ (a b : Statement) (s t : List Statement) (left : IsTrue (rises (a ∷ s))) (right : IsTrue (rises (b ∷ t))) where
  rises_by : (r : Ordering) → order a b ≡ r → IsTrue (rises (joined s (b ∷ t))) → IsTrue (rises (joined s t)) → IsTrue (rises (joined (a ∷ s) t))
      → IsTrue (rises (joined (a ∷ s) (b ∷ t)))
  rises_by Less e less equal greater = subst (λ u. IsTrue (rises u)) (sym (joined_less a b s t e))
      (rises_on a (joined s (b ∷ t)) (above_joined a s (b ∷ t) (head_rises a s left) (above_more a b t e (head_rises b t right))) less)
  rises_by Equal e less equal greater = subst (λ u. IsTrue (rises u)) (sym (joined_equal a b s t e))
      (rises_on a (joined s t) (above_joined a s t (head_rises a s left) (subst (λ c. Above c t) (sym (equal_is a b e)) (head_rises b t right))) equal)
  rises_by Greater e less equal greater = subst (λ u. IsTrue (rises u)) (sym (joined_greater a b s t e))
      (rises_on b (joined (a ∷ s) t) (above_joined b (a ∷ s) t (above_more b a s (turned a b e) (head_rises a s left)) (head_rises b t right)) greater)

rises_beside : (a : Statement) (s : List Statement) → IsTrue (rises (a ∷ s)) → ((t : List Statement) → IsTrue (rises t) → IsTrue (rises (joined s t)))
    → (t : List Statement) → IsTrue (rises t) → IsTrue (rises (joined (a ∷ s) t))
rises_beside a s left rest [] right = left
rises_beside a s left rest (b ∷ t) right =
    rises_by a b s t left right (order a b) refl (rest (b ∷ t) right) (rest t (tail_rises b t right)) (rises_beside a s left rest t (tail_rises b t right))

pub joined_rises : (s t : List Statement) → IsTrue (rises s) → IsTrue (rises t) → IsTrue (rises (joined s t))
joined_rises [] t left right = right
joined_rises (a ∷ s) t left right = rises_beside a s left (λ u r. joined_rises s u (tail_rises a s left) r) t right

-- whether a member stays, by how it stands to what is taken out
abbrev kept : Ordering → Statement → List Statement → List Statement
kept Less f r = f ∷ r
kept Equal f r = r
kept Greater f r = f ∷ r

abbrev pub removed : Statement → List Statement → List Statement
removed a [] = []
removed a (f ∷ s) = kept (order f a) f (removed a s)

-- what says the same is told so
not_equal : (a f : Statement) (r : Ordering) → order f a ≡ r → (r ≡ Equal → ⊥) → f ≢ a
not_equal a f r e unlike same = unlike (sym e ∙ (sym (ap (order f) same) ∙ itself f))

module _ (a f : Statement) (s : List Statement) (h : Lists (removed a s) (members s ∖ a)) where
  stays : f ≢ a → Lists (f ∷ removed a s) (members (f ∷ s) ∖ a)
  stays other g = (
    λ m. ⊎_elim (λ e. (inl e, λ same. other (e ∙ same))) (λ n. let old = (h g).0 n in (inr old.0, old.1)) m,
    λ m. ⊎_elim (λ e. inl e) (λ n. inr ((h g).1 (n, m.1))) m.0,
  )

  goes : f ≡ a → Lists (removed a s) (members (f ∷ s) ∖ a)
  goes same g = (
    λ m. let old = (h g).0 m in (inr old.0, old.1),
    λ m. ⊎_elim (λ e. absurd (m.1 (sym e ∙ same))) (λ n. (h g).1 (n, m.1)) m.0,
  )

  removed_by : (r : Ordering) → order f a ≡ r → Lists (kept r f (removed a s)) (members (f ∷ s) ∖ a)
  removed_by Less e = stays (not_equal a f Less e (λ x. cc))
  removed_by Equal e = goes (equal_is f a e)
  removed_by Greater e = stays (not_equal a f Greater e (λ x. cc))

pub removed_lists : (a : Statement) (s : List Statement) → Lists (removed a s) (members s ∖ a)
removed_lists a [] g = (λ m. elim m [ ], λ m. m.0)
removed_lists a (f ∷ s) g = removed_by a f s (removed_lists a s) (order f a) refl g

rises_kept : (a f : Statement) (s : List Statement) → IsTrue (rises (f ∷ s)) → IsTrue (rises (removed a s)) → (r : Ordering) → IsTrue (rises (kept r f (removed a s)))
rises_kept a f s all rest Less = rises_on f (removed a s) (λ g m. head_rises f s all g ((removed_lists a s g).0 m).0) rest
rises_kept a f s all rest Equal = rest
rises_kept a f s all rest Greater = rises_on f (removed a s) (λ g m. head_rises f s all g ((removed_lists a s g).0 m).0) rest

pub removed_rises : (a : Statement) (s : List Statement) → IsTrue (rises s) → IsTrue (rises (removed a s))
removed_rises a [] h = refl
removed_rises a (f ∷ s) h = rises_kept a f s h (removed_rises a s (tail_rises f s h)) (order f a)

-- a member stays where a test says that it isn't the same
pub removed_tested : (same : Bool) (a f : Statement) (s : List Statement) → IsTrue same ↔ (f ≡ a) → removed a (f ∷ s) ≡ cond same (removed a s) (f ∷ removed a s)
removed_tested true a f s h = ap (λ r. kept r f (removed a s)) (sym (ap (order f) (h.0 refl)) ∙ itself f)
removed_tested false a f s h = go (order f a) refl
  where
    go : (r : Ordering) → order f a ≡ r → kept r f (removed a s) ≡ f ∷ removed a s
    go Less e = refl
    go Equal e = let yes = h.1 (equal_is f a e) in cc
    go Greater e = refl

-- at the end of a pass nothing is left to look at
pub whole : (a : Statement) (done all : List Formula) (i : ℕ) → length all ≤ i
    → map meaning done ++ removed a (map meaning (drop i all)) ≡ removed a (map meaning all) → removed a (map meaning all) ≡ map meaning done
whole a done all i past e =
    sym (sym (ap (λ r. map meaning done ++ removed a (map meaning r)) (drop_all i all past) ∙ append-nil (map meaning done)) ∙ e)
