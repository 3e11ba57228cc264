-- The first caller, those whose passes are split from its pass, and those that have ended.
use Rattle.std.specs.Prelude.{◌≡◌, ◌≢◌, ℕ, ◌+◌, ◌<◌, ◌≤◌, List, [], ◌∷◌, ◌++◌, map}
use Rattle.std.specs.List.{All, Contains}
use Rattle.hist_lock.specs.declared.view.View.{View}
use Rattle.hist_lock.specs.declared.view.Joined.{Joined}
use Rattle.hist_lock.specs.Entries.{own}

module _ {E : Type 0} where
  -- the first caller has seen the opening list, which is its own
  abbrev pub first_view : List E → View E
  first_view log = record { caller = 0; seen = log; mine = log; joined = []; made = 0 }

  -- a caller from whose pass one pass more was split
  abbrev pub parent : View E → View E
  parent v = record v { made = v.made + 1 }

  -- the caller of that pass, which has the next number, has seen as much, and has made no entry
  abbrev pub child : View E → View E
  child v = record { caller = v.made + 1; seen = v.seen; mine = []; joined = []; made = 0 }

  -- the callers that a pass brings when it is joined: its own and those that were joined into it
  abbrev pub brings : View E → List (Joined E)
  brings u = record { caller = u.caller; mine = u.mine } ∷ u.joined

  -- the caller after the other's pass was joined into its own
  abbrev pub HasJoined : View E → View E → View E → Type 0
  HasJoined v u w = w ≡ record v { seen = w.seen; joined = v.joined ++ brings u }

  -- the numbers of callers
  abbrev pub callers : List (Joined E) → List ℕ
  callers joined = map (λ r. r.caller) joined

  -- each caller above low and up to high was joined
  abbrev pub HasJoinedUpTo : ℕ → ℕ → View E → Type 0
  HasJoinedUpTo low high v = (c : ℕ) → low < c → c ≤ high → Contains (callers v.joined) c

  -- each pass that was split was joined
  abbrev pub AllJoined : View E → Type 0
  AllJoined v = HasJoinedUpTo 0 v.made v

  -- whoever was joined still is
  abbrev pub KeepsJoined : View E → View E → Type 0
  KeepsJoined v w = (c : ℕ) → Contains (callers v.joined) c → Contains (callers w.joined) c

  module _ (whose : E → ℕ) (v : View E) (log : List E) where
    -- each caller that was joined has just its own entries in the list
    abbrev pub HasTheirs : Type 0
    HasTheirs = All (λ (r : Joined E). own whose r.caller log ≡ r.mine) v.joined

    -- the list has no entry of a caller that is neither this one nor was joined
    abbrev pub HasNoOther : Type 0
    HasNoOther = (c : ℕ) → c ≢ v.caller → (Contains (callers v.joined) c → ⊥) → own whose c log ≡ []
