-- What a turn asks, and what it tells.
use Rattle.std.specs.Prelude.{◌≡◌, ◌⊎◌, ℕ, List, [], ◌∷◌, ◌++◌}
use Rattle.hist_lock.specs.declared.view.View.{View}
use Rattle.hist_lock.specs.Known.{Fits, IsSameCaller}

-- no entry came, or one of caller c's, which is then one more of its own
abbrev pub Adds : {E : Type 0} → (E → ℕ) → ℕ → List E → List E → List E → List E → Type 0
Adds {E} whose c old new mine mine_now = ((new ≡ old) × (mine_now ≡ mine))
    ⊎ ((e : E) × (whose e ≡ c) × (new ≡ old ++ e ∷ []) × (mine_now ≡ mine ++ e ∷ []))

module _ {S E A : Type 0} (entries : S → List E) (whose : E → ℕ) (legal : List E → Type 0) where
  -- a caller that knows v may make the call: it can be run on each state that fits, and its entry
  -- is the caller's
  pub record May (asks : S → Type 0) (gives : S → A → S → Type 0) (v : View E) : Type 0 where
    pub asked : (x : S) → Fits entries whose legal v x → asks x
    pub its_own : (x y : S) (a : A) (e : E) → Fits entries whose legal v x → gives x a y
        → entries y ≡ entries x ++ e ∷ [] → whose e ≡ v.caller

  -- the call found a state that fits what the caller knew. The answer and the entry are what it
  -- gives there on one thread, and the caller has now seen the list so far
  pub record Turned (gives : S → A → S → Type 0) (v : View E) (answer : A)
      (w : View E) : Type 0 where
    pub before : S
    pub after : S
    pub fits : Fits entries whose legal v before
    pub given : gives before answer after
    pub fits_now : Fits entries whose legal w after
    pub seen : w.seen ≡ entries after
    pub adds : Adds whose v.caller (entries before) (entries after) v.mine w.mine
    pub rest : IsSameCaller v w
