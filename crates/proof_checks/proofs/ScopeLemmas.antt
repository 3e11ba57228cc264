-- A scope is as it was before an assumption was pushed.
use Rattle.std.proofs.Common.{◌≡◌, List, [], ◌∷◌, sym, ap}
use Rattle.theory_ctx.specs.declared.local.Local.{Local}
use Rattle.theory_ctx.specs.Locals.{Scoped}

tail : List Local → List Local
tail [] = []
tail (x ∷ xs) = xs

-- what was pushed is taken back
pub as_was : (old new : Scoped) (a b : Local) → record old { locals = a ∷ old.locals } ≡ record new { locals = b ∷ new.locals } → new ≡ old
unfolding tail
as_was old new a b e =
    let outer : Scoped → Scoped = λ s. record s { locals = tail s.locals } in
    sym (ap outer e)
