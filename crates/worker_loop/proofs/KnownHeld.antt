-- What is held after more entries.
use Rattle.std.proofs.Common.{◌≡◌, List, [], ◌∷◌, ◌++◌, Option, refl, ap, ◌∙◌}
use Rattle.pide_base.specs.declared.part.Part.{Part}
use Rattle.worker_loop.specs.declared.said.Said.{Said}
use Rattle.worker_loop.specs.Held.{held_after, held_from, held_in}

module _ {E : Type 0} (says : E → Said) where
  pub held-append : (held : Option Part) (xs ys : List E) → held_from says held (xs ++ ys) ≡ held_from says (held_from says held xs) ys
  held-append held [] ys = refl
  held-append held (x ∷ xs) ys = held-append (held_after held (says x)) xs ys

  -- one entry was made, which says this
  pub held_made : (mine now : List E) (e : E) (what : Said) → says e ≡ what → now ≡ mine ++ e ∷ [] → held_in says now ≡ held_after (held_in says mine) what
  held_made mine now e what s grown =
      ap (held_in says) grown ∙ (held-append _ mine (e ∷ []) ∙ ap (held_after (held_in says mine)) s)
