-- Going back through a list whose last edit is known.
use Rattle.std.proofs.Common.{◌≡◌, ℕ, ◌<◌, List, [], ◌∷◌, ◌++◌, ap, refl}
use Rattle.text_edits.specs.declared.edit.Edit.{Edit}
use Rattle.text_edits.specs.Offsets.{revert, revert_list, RevertsBelow}

pub revert_list-append : (es : List Edit) (e : Edit) (i : ℕ) → revert_list (es ++ e ∷ []) i ≡ revert_list es (revert e i)
revert_list-append [] e i = refl
revert_list-append (f ∷ es) e i = ap (revert f) (revert_list-append es e i)

pub below_last : (limit : ℕ) (es : List Edit) (e : Edit) (i : ℕ) → RevertsBelow limit (es ++ e ∷ []) i
    → (revert e i < limit) × RevertsBelow limit es (revert e i)
below_last limit [] e i (h, k) = (k, tt)
below_last limit (f ∷ es) e i (h, k) =
    let rest = below_last limit es e i h in
    (rest.0, (rest.1, rw (revert_list-append es e i) at k))
