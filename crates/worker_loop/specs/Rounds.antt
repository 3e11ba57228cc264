-- A worker's rounds: it claims a part, and then ends that part.
use Rattle.std.specs.Prelude.{◌≡◌, List, [], ◌∷◌, ◌++◌, Option, None, Some}
use Rattle.std.specs.List.{Contains}
use Rattle.pide_base.specs.declared.part.Part.{Part}
use Rattle.hist_lock.specs.declared.view.View.{View}
use Rattle.worker_loop.specs.declared.said.Said.{Said}
use Rattle.worker_loop.specs.declared.said.Said.TheVariants as said

-- one step of a round, by what is held before and after: a part is claimed where none is held, and
-- the part that is held is finished or dropped
abbrev pub Steps : Option Part → Said → Option Part → Type 0
Steps None (said.Claimed p) after = after ≡ Some p
Steps (Some p) (said.Finished q) after = (q ≡ p) × (after ≡ None)
Steps (Some p) (said.Dropped q) after = (q ≡ p) × (after ≡ None)
Steps _ _ _ = ⊥

module _ {E : Type 0} (says : E → Said) where
  -- these entries, oldest first, are rounds, from what was held to what is held
  abbrev pub AreRounds : Option Part → List E → Option Part → Type 0
  AreRounds held [] after = after ≡ held
  AreRounds held (e ∷ es) after =
      (next : Option Part) × Steps held (says e) next × AreRounds next es after

  -- the caller went on by rounds, and made no other entry
  abbrev pub GoesOn : View E → Option Part → View E → Option Part → Type 0
  GoesOn v held w after = (news : List E) × (w.mine ≡ v.mine ++ news) × AreRounds held news after

  -- an entry that says this was seen
  abbrev pub HasSeen : View E → Said → Type 0
  HasSeen v what = (e : E) × Contains v.seen e × (says e ≡ what)
