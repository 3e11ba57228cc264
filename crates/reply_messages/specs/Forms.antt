-- What a reply may tell.
use Rattle.std.specs.Prelude.{ℕ, ◌<◌, List, [], ◌∷◌}
use Rattle.reply_messages.specs.declared.told.Told.{Told}
use Rattle.reply_messages.specs.declared.told.Told.TheVariants as tells

-- each number is above the one before it, so each stands once
abbrev pub IsRising : List ℕ → Type 0
IsRising [] = Unit {0}
IsRising (n ∷ []) = Unit {0}
IsRising (n ∷ m ∷ more) = (n < m) × IsRising (m ∷ more)

-- removed versions, stuck executions and pending ones are told rising (this project's own)
abbrev pub IsForm : Told → Type 0
IsForm (tells.Removed versions) = IsRising versions
IsForm (tells.Settled version stuck) = IsRising stuck
IsForm (tells.Markup version node reports pending outdated) = IsRising pending
IsForm _ = Unit {0}
