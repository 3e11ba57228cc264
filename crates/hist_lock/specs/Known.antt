-- What a caller knows of a state, and what stays of it.
use Rattle.std.specs.Prelude.{◌≡◌, ℕ, List}
use mathlib.Core.List.{IsPrefix}
use Rattle.hist_lock.specs.declared.view.View.{View}
use Rattle.hist_lock.specs.Entries.{own}

-- the same caller, which may have seen more and made entries, and has split and joined no pass
abbrev pub IsSameCaller : {E : Type 0} → View E → View E → Type 0
IsSameCaller v w = w ≡ record v { seen = w.seen; mine = w.mine }

-- the same caller, which may have seen more and has made no entry
abbrev pub SeesMore : {E : Type 0} → View E → View E → Type 0
SeesMore v w = w ≡ record v { seen = w.seen }

module _ {S E : Type 0} (entries : S → List E) (whose : E → ℕ) (legal : List E → Type 0) where
  -- the state stands for a legal list that begins with what was seen, and the caller's own entries
  -- in it are these
  pub record Fits (v : View E) (x : S) : Type 0 where
    pub is_legal : legal (entries x)
    pub seen : IsPrefix v.seen (entries x)
    pub mine : own whose v.caller (entries x) ≡ v.mine
