-- The rule of the table: one legal history, and what each seat knows of it.
use Rattle.std.specs.Prelude.{◌≡◌, ◌≢◌, ℕ, ◌+◌, ◌%◌, ◌^◌, ◌<◌, ◌≤◌, List, [], ◌∷◌, length, Option, Some}
use Rattle.std.specs.List.{All}
use mathlib.Core.List.{IsPrefix}
use mathlib.Core.Option.{some}
use mathlib.Core.Option as maybe
use lib.ListN.{get_elem?}
use Rattle.atomic_table.specs.Table.{State}
use Rattle.hist_lock.specs.declared.view.Joined.{Joined}
use Rattle.hist_lock.specs.declared.view.Doing.{Doing}
use Rattle.hist_lock.specs.declared.view.Stage.{Stage}
use Rattle.hist_lock.specs.declared.view.Stage.TheVariants.{Idle, Waits, Holds, Spent}
use Rattle.hist_lock.specs.Callers.{first_view}
use Rattle.hist_lock.specs.Entries.{own}

-- the state lies in the slot, or is out with a seat
pub data Phase : Type 0 where
  home : Phase
  out : ℕ → Phase

-- 1 where a seat has a ticket
abbrev pub ticket : Stage → ℕ
ticket Idle = 0
ticket (Waits t) = 1
ticket (Holds t) = 1
ticket Spent = 0

module _ {E : Type 0} where
  -- how many seats have a ticket
  abbrev pub tickets : List (Doing E) → ℕ
  tickets [] = 0
  tickets (d ∷ ds) = ticket d.stage + tickets ds

  -- the first caller's seat
  abbrev pub first_seat : List E → Doing E
  first_seat log = record { stage = Idle; view = first_view log; told = log }

  -- a seat at its stage: the ticket is its own, and with the turn it has seen all
  abbrev pub AtStage : List E → ℕ → ℕ → (ℕ → ℕ) → Phase → ℕ → List E → Stage → Type 0
  AtStage log drawn served owner phase j seen Idle = Unit {0}
  AtStage log drawn served owner phase j seen (Waits t) = (owner t ≡ j) × (served ≤ t) × (t < drawn)
  AtStage log drawn served owner phase j seen (Holds t) = (owner t ≡ j) × (t ≡ served) × (t < drawn)
      × (phase ≡ out j) × (seen ≡ log)
  AtStage log drawn served owner phase j seen Spent = Unit {0}

module _ {E : Type 0} (whose : E → ℕ) (legal : List E → Type 0) (log : List E)
    (seats : List (Doing E)) where
  -- a caller has ended, with these entries
  pub record IsGone (r : Joined E) : Type 0 where
    pub spent : (d : Doing E) × (get_elem? seats r.caller ≡ some d) × (d.stage ≡ Spent)
    pub mine : own whose r.caller log ≡ r.mine

  -- what a seat that isn't spent knows is so
  pub record Knows (j : ℕ) (d : Doing E) : Type 0 where
    pub caller : d.view.caller ≡ j
    pub seen : IsPrefix d.view.seen log × legal d.view.seen
    pub told : IsPrefix d.told log × legal d.told
    pub mine : own whose j log ≡ d.view.mine
    pub joined : All IsGone d.view.joined
    pub made : j ≡ 0 → length seats ≡ d.view.made + 1

module _ {S E : Type 0} (entries : S → List E) where
  -- at home the state stands for the history; a seat that it is out with has the turn
  abbrev pub InPlace : List (maybe.Option (Option S)) → List (Doing E) → List E → ℕ → Phase → Type 0
  InPlace homes seats log served home =
      (x : S) × (get_elem? homes 0 ≡ some (some (Some x))) × (entries x ≡ log)
  InPlace homes seats log served (out j) =
      (d : Doing E) × (get_elem? seats j ≡ some d) × (d.stage ≡ Holds served)

-- there is one legal history, each seat knows its part of it, and it has entries of these seats
-- alone
pub record Kept {S E : Type 0} (entries : S → List E) (whose : E → ℕ) (legal : List E → Type 0)
    (s : State (Option S) (Doing E)) : Type 0 where
  pub log : List E
  pub drawn : ℕ
  pub served : ℕ
  pub owner : ℕ → ℕ
  pub phase : Phase
  pub words : s.words ≡ (drawn % 2 ^ 64) ∷ (served % 2 ^ 64) ∷ length log ∷ []
  pub short : length log < 2 ^ 64
  pub legal_log : legal log
  pub few : length s.views ≤ 2 ^ 32
  pub counted : served + tickets s.views ≡ drawn
  pub placed : InPlace entries s.homes s.views log served phase
  pub staged : (j : ℕ) (d : Doing E) → get_elem? s.views j ≡ some d
      → AtStage log drawn served owner phase j d.view.seen d.stage
  pub known : (j : ℕ) (d : Doing E) → get_elem? s.views j ≡ some d → d.stage ≢ Spent
      → Knows whose legal log s.views j d
  pub no_other : (c : ℕ) → length s.views ≤ c → own whose c log ≡ []
