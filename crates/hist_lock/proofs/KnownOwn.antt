-- The entries of one caller.
use Rattle.std.proofs.Common.{ℕ, List}
use Rattle.std.specs.Prelude.{◌==◌}
use Rattle.std.specs.List.{Contains}
use Rattle.std.proofs.lemmas.List.Elements.{All-contains, All-contains_itself, All-filter}
use Rattle.hist_lock.specs.Entries.{own}

-- what stands among a caller's entries stands in the list
pub own_within : {E : Type 0} (whose : E → ℕ) (c : ℕ) (log : List E) (x : E)
    → Contains (own whose c log) x → Contains log x
own_within whose c log x has = All-contains (Contains log) (own whose c log) x
    (All-filter (λ e. whose e == c) (Contains log) log (All-contains_itself log)) has
