-- Pairs that a map lends.
use Rattle.std.specs.Borrow.{Bor}

-- what a lent pair is
abbrev pub lent : {K V : Type 0} → Bor K × Bor V → K × V
lent pair = (pair.0.now, pair.1.now)
