-- Lists of assumptions: more of them, and one of them less.
use Rattle.std.proofs.Common.{◌≡◌, ◌≢◌, ◌⊎◌, List, [], ◌∷◌, ◌++◌, sym, ◌∙◌, inl, inr, ⊎_elim}
use Rattle.nj_formula.specs.Statement.{Statement}
use Rattle.nj_kernel.specs.Nj.{Nj, assume, same_set, conj_i, conj_e2}
use Rattle.nj_kernel.specs.Sets.{members, ◌∖◌, Lists}
use Rattle.proof_state.specs.Same.{decide}
use Rattle.proof_state.proofs.KnownSets.{in_left, in_either, lists_both}

one_more : (a : Statement) (s : List Statement) (f : Statement) → Nj s f → Nj (a ∷ s) f
one_more a s f d = conj_e2 (conj_i (lists_both (a ∷ []) s) (assume {a = a}) d)

more : (s t : List Statement) (f : Statement) → Nj t f → Nj (s ++ t) f
more [] t f d = d
more (a ∷ s) t f d = one_more a (s ++ t) f (more s t f d)

-- what is derived is derived from more assumptions
pub weaken : (s t : List Statement) (f : Statement) → ((g : Statement) → members t g → members s g) → Nj t f → Nj s f
weaken s t f within d =
    same_set (λ g. (λ m. in_left s t g m, λ m. ⊎_elim (λ n. n) (within g) (in_either s t g m))) (more s t f d)

abbrev Without : Statement → List Statement → Type 0
Without a s = (t : List Statement) × Lists t (members s ∖ a)

-- the others than a
pub without : (a : Statement) (s : List Statement) → Without a s
without a [] = ([], λ f. (λ m. elim m [ ], λ m. m.0))
without a (g ∷ s) = by (decide g a) (without a s)
  where
    dropped : g ≡ a → (t : List Statement) → Lists t (members s ∖ a) → Lists t (members (g ∷ s) ∖ a)
    dropped same t lists f = (
      λ m. let kept = (lists f).0 m in (inr kept.0, kept.1),
      λ m. ⊎_elim (λ e. absurd (m.1 (sym e ∙ same))) (λ n. (lists f).1 (n, m.1)) m.0,
    )

    kept : g ≢ a → (t : List Statement) → Lists t (members s ∖ a) → Lists (g ∷ t) (members (g ∷ s) ∖ a)
    kept other t lists f = (
      λ m. ⊎_elim (λ e. (inl e, λ h. other (e ∙ h))) (λ n. let rest = (lists f).0 n in (inr rest.0, rest.1)) m,
      λ m. ⊎_elim (λ e. inl e) (λ n. inr ((lists f).1 (n, m.1))) m.0,
    )

    by : (g ≡ a) ⊎ (g ≢ a) → Without a s → Without a (g ∷ s)
    by (inl same) rest = (rest.0, dropped same rest.0 rest.1)
    by (inr other) rest = (g ∷ rest.0, kept other rest.0 rest.1)
