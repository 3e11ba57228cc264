-- Two rising lists joined in one pass, and a statement taken out of one.
use Rattle.std.proofs.Common.{arith, ◌≡◌, ◌<◌, length, map, ◌⊎◌, List, [], ◌∷◌, ◌++◌, refl, ap, sym, subst, ◌∙◌, inl, inr, ⊎_elim}
use Rattle.std.specs.declared.cmp.Ordering.{Ordering}
use Rattle.std.specs.declared.cmp.Ordering.TheVariants.{Less, Equal, Greater}
use Rattle.std.proofs.lemmas.List.{append-nil, append_assoc, map-append}
use Rattle.nj_formula.specs.declared.formula.Formula.{Formula}
use Rattle.nj_formula.specs.Meaning.{meaning}
use Rattle.nj_formula.specs.Statement.{Statement}
use Rattle.nj_kernel.specs.Sets.{members, Lists, ◌∪◌}
use Rattle.nj_kernel.specs.Order.{order}
use Rattle.nj_kernel.proofs.OrderLemmas.{equal_is}

-- which statement comes next, by how the two stand
abbrev placed : Ordering → Statement → Statement → List Statement → List Statement → List Statement → List Statement
placed Less a b less equal greater = a ∷ less
placed Equal a b less equal greater = a ∷ equal
placed Greater a b less equal greater = b ∷ greater

-- a list that begins with a, joined with another
abbrev beside : Statement → List Statement → (List Statement → List Statement) → List Statement → List Statement
beside a s rest [] = a ∷ s
beside a s rest (b ∷ t) = placed (order a b) a b (rest (b ∷ t)) (rest t) (beside a s rest t)

abbrev pub joined : List Statement → List Statement → List Statement
joined [] t = t
joined (a ∷ s) t = beside a s (joined s) t

pub joined_none : (s : List Statement) → joined s [] ≡ s
joined_none [] = refl
joined_none (a ∷ s) = refl

pub joined_less : (a b : Statement) (s t : List Statement) → order a b ≡ Less → joined (a ∷ s) (b ∷ t) ≡ a ∷ joined s (b ∷ t)
joined_less a b s t e = ap (λ r. placed r a b (joined s (b ∷ t)) (joined s t) (joined (a ∷ s) t)) e

pub joined_equal : (a b : Statement) (s t : List Statement) → order a b ≡ Equal → joined (a ∷ s) (b ∷ t) ≡ a ∷ joined s t
joined_equal a b s t e = ap (λ r. placed r a b (joined s (b ∷ t)) (joined s t) (joined (a ∷ s) t)) e

pub joined_greater : (a b : Statement) (s t : List Statement) → order a b ≡ Greater → joined (a ∷ s) (b ∷ t) ≡ b ∷ joined (a ∷ s) t
joined_greater a b s t e = ap (λ r. placed r a b (joined s (b ∷ t)) (joined s t) (joined (a ∷ s) t)) e

abbrev Joins : List Statement → List Statement → List Statement → Type 0
Joins s t u = (f : Statement) → (members u f → members s f ⊎ members t f) × (members s f → members u f) × (members t f → members u f)

-- one more pass of the three
module _ (a b : Statement) (s t : List Statement) where
  joins_less : (u : List Statement) → Joins s (b ∷ t) u → Joins (a ∷ s) (b ∷ t) (a ∷ u)
  joins_less u h f = (
    λ m. ⊎_elim (λ e. inl (inl e)) (λ n. ⊎_elim (λ x. inl (inr x)) (λ y. inr y) ((h f).0 n)) m,
    λ m. ⊎_elim (λ e. inl e) (λ n. inr ((h f).1 n)) m,
    λ m. inr ((h f).2 m),
  )

  joins_equal : a ≡ b → (u : List Statement) → Joins s t u → Joins (a ∷ s) (b ∷ t) (a ∷ u)
  joins_equal same u h f = (
    λ m. ⊎_elim (λ e. inl (inl e)) (λ n. ⊎_elim (λ x. inl (inr x)) (λ y. inr (inr y)) ((h f).0 n)) m,
    λ m. ⊎_elim (λ e. inl e) (λ n. inr ((h f).1 n)) m,
    λ m. ⊎_elim (λ e. inl (same ∙ e)) (λ n. inr ((h f).2 n)) m,
  )

  joins_greater : (u : List Statement) → Joins (a ∷ s) t u → Joins (a ∷ s) (b ∷ t) (b ∷ u)
  joins_greater u h f = (
    λ m. ⊎_elim (λ e. inr (inl e)) (λ n. ⊎_elim (λ x. inl x) (λ y. inr (inr y)) ((h f).0 n)) m,
    λ m. inr ((h f).1 m),
    λ m. ⊎_elim (λ e. inl e) (λ n. inr ((h f).2 n)) m,
  )

  joins_by : (r : Ordering) → order a b ≡ r → Joins s (b ∷ t) (joined s (b ∷ t)) → Joins s t (joined s t) → Joins (a ∷ s) t (joined (a ∷ s) t)
      → Joins (a ∷ s) (b ∷ t) (joined (a ∷ s) (b ∷ t))
  joins_by Less e less equal greater = subst (Joins (a ∷ s) (b ∷ t)) (sym (joined_less a b s t e)) (joins_less _ less)
  joins_by Equal e less equal greater = subst (Joins (a ∷ s) (b ∷ t)) (sym (joined_equal a b s t e)) (joins_equal (equal_is a b e) _ equal)
  joins_by Greater e less equal greater = subst (Joins (a ∷ s) (b ∷ t)) (sym (joined_greater a b s t e)) (joins_greater _ greater)

joins_beside : (a : Statement) (s : List Statement) → ((t : List Statement) → Joins s t (joined s t)) → (t : List Statement) → Joins (a ∷ s) t (joined (a ∷ s) t)
joins_beside a s rest [] f = (λ m. inl m, λ m. m, λ m. elim m [ ])
joins_beside a s rest (b ∷ t) f = joins_by a b s t (order a b) refl (rest (b ∷ t)) (rest t) (joins_beside a s rest t) f

pub joins : (s t : List Statement) → Joins s t (joined s t)
joins [] t f = (λ m. inr m, λ m. elim m [ ], λ m. m)
joins (a ∷ s) t f = joins_beside a s (joins s) t f

pub joined_lists : (s t : List Statement) → Lists (joined s t) (members s ∪ members t)
joined_lists s t f = ((joins s t f).0, λ h. ⊎_elim (joins s t f).1 (joins s t f).2 h)

pub empty : (fs : List Formula) → length fs < 1 → fs ≡ []
empty [] h = refl
empty (f ∷ fs) h = absurd (omega arith)

-- where one of the two is used up, the rest of both follows
rest : (s t : List Statement) → (s ≡ []) ⊎ (t ≡ []) → joined s t ≡ s ++ t
rest s t (inl e) = subst (λ x. joined x t ≡ x ++ t) (sym e) refl
rest s t (inr e) = subst (λ y. joined s y ≡ s ++ y) (sym e) (joined_none s ∙ sym (append-nil s))

-- at the end of the pass
pub ended : (done left right more all s t : List Formula) → (left ≡ []) ⊎ (right ≡ []) → more ≡ done ++ left → all ≡ more ++ right
    → map meaning done ++ joined (map meaning left) (map meaning right) ≡ joined (map meaning s) (map meaning t)
    → joined (map meaning s) (map meaning t) ≡ map meaning all
ended done left right more all s t which one two e =
    let used : (map meaning left ≡ []) ⊎ (map meaning right ≡ []) = ⊎_elim (λ h. inl (ap (map meaning) h)) (λ h. inr (ap (map meaning) h)) which in
    let both : map meaning all ≡ (map meaning done ++ map meaning left) ++ map meaning right =
    ap (map meaning) two ∙ (map-append meaning more right ∙ ap (λ x. x ++ map meaning right) (ap (map meaning) one ∙ map-append meaning done left)) in
    sym (both ∙ (append_assoc (map meaning done) (map meaning left) (map meaning right) ∙ (sym (ap (λ x. map meaning done ++ x) (rest (map meaning left) (map meaning right) used)) ∙ e)))
