-- Two lists of statements put together list what either has.
use Rattle.std.proofs.Common.{◌⊎◌, List, [], ◌∷◌, ◌++◌, inl, inr, ⊎_elim}
use Rattle.nj_formula.specs.Statement.{Statement}
use Rattle.nj_kernel.specs.Sets.{members, ◌∪◌, Lists}

pub in_left : (s t : List Statement) (f : Statement) → members s f → members (s ++ t) f
in_left [] t f m = elim m [ ]
in_left (g ∷ s) t f m = ⊎_elim (λ e. inl e) (λ n. inr (in_left s t f n)) m

pub in_right : (s t : List Statement) (f : Statement) → members t f → members (s ++ t) f
in_right [] t f m = m
in_right (g ∷ s) t f m = inr (in_right s t f m)

pub in_either : (s t : List Statement) (f : Statement) → members (s ++ t) f → members s f ⊎ members t f
in_either [] t f m = inr m
in_either (g ∷ s) t f m =
    ⊎_elim (λ e. inl (inl e)) (λ n. ⊎_elim (λ l. inl (inr l)) (λ r. inr r) (in_either s t f n)) m

-- two lists list what either has
pub lists_both : (s t : List Statement) → Lists (s ++ t) (members s ∪ members t)
lists_both s t f = (λ m. in_either s t f m, λ m. ⊎_elim (in_left s t f) (in_right s t f) m)
