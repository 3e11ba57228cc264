-- What each turn of the writer gives.
use Rattle.std.specs.Prelude.{◌≡◌, ℕ, List, ◌++◌}
use Rattle.std.specs.List.{All}
use Rattle.hist_lock.specs.Entries.{own}
use Rattle.hist_lock.specs.declared.view.View.{View}
use Rattle.worker_loop.specs.declared.said.Said.{Said}
use Rattle.worker_loop.specs.declared.said.Said.TheVariants as said
use Rattle.worker_loop.specs.declared.outbox.Next.{Next}
use Rattle.worker_loop.specs.declared.outbox.Next.TheVariants as next
use Rattle.worker_loop.specs.Answers.{Makes}
use Rattle.worker_loop.specs.Rounds.{HasSeen}
use Rattle.worker_loop.specs.Stays.{SeesOn}

module _ {E : Type 0} where
  -- the caller has seen all its own entries
  abbrev pub KnowsOwn : (E → ℕ) → View E → Type 0
  KnowsOwn whose v = own whose v.caller v.seen ≡ v.mine

module _ {E : Type 0} (says : E → Said) where
  -- these entries are made for pieces
  abbrev pub AreSent : List E → Type 0
  AreSent es = All (λ e. says e ≡ said.Sent) es

  -- the caller has made entries for pieces alone
  abbrev pub HasOnlySent : View E → Type 0
  HasOnlySent v = AreSent v.mine

module _ {E : Type 0} (sent : List E → List ℕ) where
  -- the caller was handed these bytes
  abbrev pub Handed : View E → List ℕ → View E → Type 0
  Handed v bytes w = sent w.seen ≡ sent v.seen ++ bytes

module _ {E : Type 0} (says : E → Said) (sent : List E → List ℕ) where
  -- the next piece was handed to the caller, with one entry; or nothing was, as the answer says
  abbrev pub NextSo : (List E → ℕ → Type 0) → View E → Next → View E → Type 0
  NextSo idle v (next.Piece piece) w = Makes says v said.Sent w × Handed sent v piece.items w
  NextSo idle v next.Nothing w = SeesOn v w × (sent w.seen ≡ sent v.seen) × idle w.seen w.caller
  NextSo idle v next.Ended w = SeesOn v w × (sent w.seen ≡ sent v.seen) × HasSeen says w said.Ended

  -- the caller told that its sink failed
  abbrev pub LostSo : View E → View E → Type 0
  LostSo v w = Makes says v said.Lost w × (sent w.seen ≡ sent v.seen)
