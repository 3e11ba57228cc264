-- Derived rules: what follows from statements of which P holds.
use Rattle.std.proofs.Common.{◌≡◌, ◌≢◌, ◌⊎◌, ℕ, false, List, [], ◌∷◌, ◌++◌, refl, sym, subst, inl, inr, ⊎_elim}
use Rattle.nj_formula.specs.declared.argument.Argument.TheVariants.{Free}
use Rattle.nj_formula.specs.Statement.{Statement, falsity, neg, conj, implies, every}
use Rattle.nj_formula.specs.Free.{is_free}
use Rattle.nj_formula.specs.Instance.{instance}
use Rattle.nj_kernel.specs.Nj.{Nj, assume, conj_i, imp_i, imp_e, not_i, all_i}
use Rattle.nj_kernel.specs.Sets.{members, ◌∪◌, IsFreshIn}
use Rattle.proof_state.specs.Follows.{Follows}
use Rattle.proof_state.proofs.KnownSets.{in_left, in_right, in_either, lists_both}
use Rattle.proof_state.proofs.KnownAssumptions.{weaken, without}

pub itself : (P : Statement → Type 0) (f : Statement) → P f → Follows P f
itself P f p = (f ∷ [], λ g m. ⊎_elim (λ e. subst P e p) (λ n. elim n [ ]) m, assume)

pub monotone : (P Q : Statement → Type 0) (f : Statement) → ((g : Statement) → P g → Q g) → Follows P f → Follows Q f
monotone P Q f into d = (d.0, λ g m. into g (d.1 g m), d.2)

-- the assumptions s are cut one by one, and those of u stay
cut_all : (Q : Statement → Type 0) (f : Statement) (s u : List Statement)
    → ((g : Statement) → members s g → Follows Q g) → ((g : Statement) → members u g → Q g) → Nj (s ++ u) f → Follows Q f
cut_all Q f [] u each below d = (u, below, d)
cut_all Q f (a ∷ s) u each below d =
    cut_all Q f s (u ++ of_a.0) (λ g m. each g (inr m))
    (λ g m. ⊎_elim (below g) (of_a.1 g) (in_either u of_a.0 g m))
    (weaken (s ++ (u ++ of_a.0)) (others.0 ++ of_a.0) f within (imp_e (lists_both others.0 of_a.0) (imp_i {a = a} others.1 d) of_a.2))
  where
    of_a : Follows Q a
    of_a = each a (inl refl)

    others : (t : List Statement) × ((g : Statement) → (members t g → (members (a ∷ (s ++ u)) g × (g ≢ a))) × ((members (a ∷ (s ++ u)) g × (g ≢ a)) → members t g))
    others = without a (a ∷ (s ++ u))

    stays : (g : Statement) → members s g ⊎ members u g → members (s ++ (u ++ of_a.0)) g
    stays g m = ⊎_elim (in_left s (u ++ of_a.0) g) (λ n. in_right s (u ++ of_a.0) g (in_left u of_a.0 g n)) m

    old : (g : Statement) → members (a ∷ (s ++ u)) g × (g ≢ a) → members (s ++ (u ++ of_a.0)) g
    old g m = ⊎_elim (λ e. absurd (m.1 (sym e))) (λ n. stays g (in_either s u g n)) m.0

    within : (g : Statement) → members (others.0 ++ of_a.0) g → members (s ++ (u ++ of_a.0)) g
    within g m =
        ⊎_elim (λ n. old g ((others.1 g).0 n)) (λ n. in_right s (u ++ of_a.0) g (in_right u of_a.0 g n)) (in_either others.0 of_a.0 g m)

-- what follows from what follows
pub cut : (P Q : Statement → Type 0) (f : Statement) → ((g : Statement) → P g → Follows Q g) → Follows P f → Follows Q f
cut P Q f each d =
    cut_all Q f d.0 [] (λ g m. each g (d.1 g m)) (λ g m. elim m [ ]) (weaken (d.0 ++ []) d.0 f (λ g m. in_left d.0 [] g m) d.2)

module _ (P : Statement → Type 0) where
  left_over : (a g : Statement) → (P ∪ members (a ∷ [])) g → g ≢ a → P g
  left_over a g m other = ⊎_elim (λ p. p) (λ n. ⊎_elim (λ e. absurd (other (sym e))) (λ k. elim k [ ]) n) m

  pub imp_follows : (a b : Statement) → Follows (P ∪ members (a ∷ [])) b → Follows P (implies a b)
  imp_follows a b d =
      let others = without a d.0 in
      (others.0, λ g m. let kept = (others.1 g).0 m in left_over a g (d.1 g kept.0) kept.1, imp_i others.1 d.2)

  pub not_follows : (a : Statement) → Follows (P ∪ members (a ∷ [])) falsity → Follows P (neg a)
  not_follows a d =
      let others = without a d.0 in
      (others.0, λ g m. let kept = (others.1 g).0 m in left_over a g (d.1 g kept.0) kept.1, not_i others.1 d.2)

  pub and_follows : (a b : Statement) → Follows P a → Follows P b → Follows P (conj a b)
  and_follows a b d e =
      (d.0 ++ e.0, λ g m. ⊎_elim (d.1 g) (e.1 g) (in_either d.0 e.0 g m), conj_i (lists_both d.0 e.0) d.2 e.2)

  pub all_follows : (y : List ℕ) (p : Statement) → IsFreshIn y P → is_free y p ≡ false → Follows P (instance (Free y) p) → Follows P (every p)
  all_follows y p fresh absent d = (d.0, d.1, all_i y absent (λ g m. fresh g (d.1 g m)) d.2)
