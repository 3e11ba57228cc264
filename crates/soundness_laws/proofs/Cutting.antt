-- What follows from what follows.
use Rattle.std.proofs.Common.{◌⊎◌, List, [], ◌∷◌, ◌++◌, refl, sym, inl, inr, ⊎_elim}
use Rattle.std.proofs.Math.Logic.{∥∥₁_elim, ∥∥₁_prop}
use Rattle.nj_formula.specs.Statement.{Statement}
use Rattle.nj_kernel.specs.Nj.{Nj, imp_i, imp_e}
use Rattle.nj_kernel.specs.Sets.{members, ◌∖◌}
use Rattle.proof_state.specs.Follows.{Follows}
use Rattle.proof_state.proofs.KnownSets.{in_left, in_right, in_either, lists_both}
use Rattle.proof_state.proofs.KnownAssumptions.{weaken, without}

-- one assumption is replaced by what it follows from
cut_one : (a f : Statement) (s t : List Statement) → Nj (a ∷ s) f → Nj t a → Nj (s ++ t) f
cut_one a f s t d of_a =
    let others = without a (a ∷ s) in
    weaken (s ++ t) (others.0 ++ t) f
    (λ g m. ⊎_elim (λ n. in_left s t g (left g ((others.1 g).0 n))) (in_right s t g) (in_either others.0 t g m))
    (imp_e (lists_both others.0 t) (imp_i {a = a} others.1 d) of_a)
  where
    left : (g : Statement) → (members (a ∷ s) ∖ a) g → members s g
    left g m = ⊎_elim (λ e. absurd (m.1 (sym e))) (λ n. n) m.0

module _ (Q : Statement → Type 0) (f : Statement) where
  -- the assumptions s are cut one by one, and those of u stay
  cut_all : (s u : List Statement) → ((g : Statement) → members s g → ∥ Follows Q g ∥₁)
      → ((g : Statement) → members u g → Q g) → Nj (s ++ u) f → ∥ Follows Q f ∥₁
  cut_all [] u each below d = ∣ (u, below, d) ∣₁
  cut_all (a ∷ s) u each below d = ∥∥₁_elim (each a (inl refl)) ∥∥₁_prop (next (cut_all s))
    where
      next : ((v : List Statement) → ((g : Statement) → members s g → ∥ Follows Q g ∥₁) → ((g : Statement) → members v g → Q g) → Nj (s ++ v) f → ∥ Follows Q f ∥₁)
          → Follows Q a → ∥ Follows Q f ∥₁
      next rest of_a = rest (u ++ of_a.0) (λ g m. each g (inr m))
          (λ g m. ⊎_elim (below g) (of_a.1 g) (in_either u of_a.0 g m))
          (weaken (s ++ (u ++ of_a.0)) ((s ++ u) ++ of_a.0) f
          (λ g m. ⊎_elim (λ n. ⊎_elim (in_left s (u ++ of_a.0) g) (λ k. in_right s (u ++ of_a.0) g (in_left u of_a.0 g k)) (in_either s u g n))
          (λ n. in_right s (u ++ of_a.0) g (in_right u of_a.0 g n)) (in_either (s ++ u) of_a.0 g m))
          (cut_one a f (s ++ u) of_a.0 d of_a.2))

-- what follows from statements that all follow
pub cut : (P Q : Statement → Type 0) (f : Statement) → ((g : Statement) → P g → ∥ Follows Q g ∥₁) → Follows P f → ∥ Follows Q f ∥₁
cut P Q f each d =
    cut_all Q f d.0 [] (λ g m. each g (d.1 g m)) (λ g m. elim m [ ]) (weaken (d.0 ++ []) d.0 f (λ g m. in_left d.0 [] g m) d.2)
