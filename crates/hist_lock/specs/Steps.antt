-- What each step tells its seat: of the seat m before, the word r found, and the seat m' after.
-- The steps are those of a ticket lock, with a word for the length of the history beside its two.
use Rattle.std.specs.Prelude.{◌≡◌, ◌≢◌, ℕ, ◌<◌, ◌%◌, ◌^◌, List, [], ◌∷◌, ◌++◌, length, Option, Some, None}
use mathlib.Core.List.{IsPrefix}
use Rattle.atomic_table.specs.Table.{Me, Step, rest}
use Rattle.hist_lock.specs.declared.view.View.{View}
use Rattle.hist_lock.specs.declared.view.Doing.{Doing}
use Rattle.hist_lock.specs.declared.view.Stage.{Stage}
use Rattle.hist_lock.specs.declared.view.Stage.TheVariants.{Idle, Waits, Holds, Spent}
use Rattle.hist_lock.specs.Callers.{parent, child, brings}
use Rattle.hist_lock.specs.Entries.{own, IsLonger}
use Rattle.hist_lock.specs.Known.{Fits}

-- the ticket of a seat that has one
abbrev pub ticket_of : Stage → ℕ
ticket_of Idle = 0
ticket_of (Waits t) = t
ticket_of (Holds t) = t
ticket_of Spent = 0

module _ {E : Type 0} where
  -- the seat at another stage
  abbrev pub staged : Doing E → Stage → Doing E
  staged d stage = record d { stage = stage }

  -- the history that was seen, and the caller's own entries in it
  abbrev pub saw : Doing E → List E → List E → Doing E
  saw d seen mine = record d { view = record d.view { seen = seen; mine = mine } }

  -- nothing is known any more
  abbrev pub spent_view : View E
  spent_view = record { caller = 0; seen = []; mine = []; joined = []; made = 0 }

  -- a seat that was joined into another
  abbrev pub spent_seat : Doing E
  spent_seat = record { stage = Spent; view = spent_view; told = [] }

  -- the old seat after a split
  abbrev pub parent_seat : Doing E → Doing E
  parent_seat d = record d { view = parent d.view }

  -- the new seat after it
  abbrev pub child_seat : Doing E → Doing E
  child_seat d = record { stage = Idle; view = child d.view; told = d.view.seen }

  -- the seat d after the seat e was joined into it
  abbrev pub absorbed : Doing E → Doing E → Doing E
  absorbed d e =
      record d {
        view = record d.view { joined = d.view.joined ++ brings e.view };
        told = e.view.seen;
      }

-- a seat's view, with the slot that it holds
abbrev pub Sat : Type 0 → Type 0 → Type 0
Sat S E = Me (Option S) (Doing E)

module _ {S E : Type 0} where
  -- the seat has a ticket, which words show as r
  abbrev pub TakesTicket : Sat S E → ℕ → Sat S E → Type 0
  TakesTicket m r m' = (t : ℕ) × (r ≡ t % 2 ^ 64) × (m' ≡ (staged m.0 (Waits t), m.1))

  -- it waits with that ticket
  abbrev pub HasTicket : Sat S E → ℕ → Type 0
  HasTicket m r = (t : ℕ) × (r ≡ t % 2 ^ 64) × (m.0.stage ≡ Waits t)

  -- it has the turn
  abbrev pub HasTurn : Sat S E → Type 0
  HasTurn m = (t : ℕ) × (m.0.stage ≡ Holds t)

  -- the seat holds the slot, with this in it
  abbrev pub Carries : Sat S E → Option S → Type 0
  Carries m x = m.1 ≡ (0, x) ∷ []

  -- it has seen more, and nothing else has changed
  abbrev pub HasSeen : Sat S E → Sat S E → Type 0
  HasSeen m m' = m' ≡ (saw m.0 m'.0.view.seen m.0.view.mine, m.1)

  -- it has seen this list, and nothing else is known of it that was not
  abbrev pub SeesList : Sat S E → List E → Sat S E → Type 0
  SeesList m xs m' = (m'.0.view ≡ record m.0.view { seen = xs }) × (m'.0.told ≡ m.0.told)

  -- the draw of a ticket
  abbrev pub drew : Step (Option S) → Sat S E → ℕ → Sat S E → Type 0
  drew st m r m' = TakesTicket m r m'

  -- the turn is passed on, and the state is given back
  abbrev pub passed : Step (Option S) → Sat S E → ℕ → Sat S E → Type 0
  passed st m r m' = m' ≡ (staged m.0 Idle, rest m.1)

module _ {S E : Type 0} (entries : S → List E) (whose : E → ℕ) (legal : List E → Type 0) where
  -- the list of the state that a seat holds
  abbrev pub held : List (ℕ × Option S) → List E
  held [] = []
  held ((k, None) ∷ xs) = []
  held ((k, Some x) ∷ xs) = entries x

  -- the state has one legal entry more than was seen, which is the caller's
  pub record IsOneMore (v : View E) (y : S) : Type 0 where
    pub entry : E
    pub entries_are : entries y ≡ v.seen ++ entry ∷ []
    pub callers_own : whose entry ≡ v.caller
    pub is_legal : legal (entries y)
    pub short : length (entries y) < 2 ^ 64

  -- the seat holds the state x, which fits what the caller knew
  abbrev pub TakesTurn : Sat S E → Sat S E → Type 0
  TakesTurn m m' = (x : S) × Fits entries whose legal m.0.view x
      × (m' ≡ (
        staged (saw m.0 (entries x) m.0.view.mine) (Holds (ticket_of m.0.stage)),
        (0, Some x) ∷ m.1,
      ))

  -- a look at the ticket that is served
  abbrev pub looked : Step (Option S) → Sat S E → ℕ → Sat S E → Type 0
  looked st m r m' = let mine = ticket_of m.0.stage % 2 ^ 64 in
      (r ≡ mine → TakesTurn m m') × (r ≢ mine → m' ≡ m)

  -- the seat has seen all entries of the state that it holds, and the caller's own among them
  abbrev pub seeing : Doing E → S → Doing E
  seeing d y = saw d (entries y) (own whose d.view.caller (entries y))

  -- the seat holds a state with one entry more
  abbrev pub CarriesMore : Sat S E → Type 0
  CarriesMore m = (y : S) × Carries m (Some y) × IsOneMore m.0.view y

  -- the seat holds a state whose entries it has seen
  abbrev pub CarriesSeen : Sat S E → Type 0
  CarriesSeen m = (y : S) × Carries m (Some y) × (entries y ≡ m.0.view.seen)

  -- it has then seen the entries of the state that it holds
  abbrev pub SeesEntry : Sat S E → Sat S E → Type 0
  SeesEntry m m' = (y : S) → Carries m (Some y) → m' ≡ (seeing m.0 y, m.1)

  -- the entry that the call made is appended
  abbrev pub appended : Step (Option S) → Sat S E → ℕ → Sat S E → Type 0
  appended st m r m' = m' ≡ (saw m.0 (held m.1) (own whose m.0.view.caller (held m.1)), m.1)

  -- the whole history is seen, and r is its length
  abbrev pub watched : Step (Option S) → Sat S E → ℕ → Sat S E → Type 0
  watched st m r m' = (xs : List E) × (r ≡ length xs) × IsPrefix m.0.view.seen xs × legal xs
      × (own whose m.0.view.caller xs ≡ m.0.view.mine) × (m' ≡ (saw m.0 xs m.0.view.mine, m.1))

  -- of what was seen and what the seat was told of, the longer list is seen
  abbrev pub learned : Step (Option S) → Sat S E → ℕ → Sat S E → Type 0
  learned st m r m' = (xs : List E) × IsLonger m.0.view.seen m.0.told xs × legal xs
      × (m' ≡ (saw m.0 xs m.0.view.mine, m.1))
