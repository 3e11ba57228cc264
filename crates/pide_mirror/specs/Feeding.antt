-- What a piece does to a mirror (this project's own).
use Rattle.std.specs.Prelude.{◌≡◌, ℕ, ◌≤◌, ◌<◌, List, ◌∷◌, ◌++◌, length, take, Option, Some, None, Result, Ok, Err}
use Rattle.mirror_rules.specs.Events.{MirrorEvent, Fed}
use Rattle.mirror_rules.specs.Moves.{Move, Heard}
use Rattle.reply_messages.specs.FoundReplies.{FindsReply}
use Rattle.reply_messages.specs.declared.told.Told.{Told}
use Rattle.pide_mirror.specs.Hearing.{Hearing, HasHeard}
use Rattle.pide_mirror.specs.declared.error.MirrorError.{MirrorError}
use Rattle.pide_mirror.specs.declared.error.MirrorError.TheVariants.{Fault, NoMemory}
use Rattle.pide_mirror.specs.declared.mirror.Taken.{Taken}

-- so many moves more are heard of these bytes
pub record Hears (old : Hearing) (bytes : List ℕ) (number : ℕ) (new : Hearing) : Type 0 where
  pub mode : new.mode ≡ old.mode
  pub newer : List Move
  pub count : length newer ≡ number
  pub moves : new.moves ≡ newer ++ old.moves
  pub heard : (events : List MirrorEvent) → HasHeard events old → HasHeard (Fed bytes ∷ events) new

-- a front of the piece is heard: up to the first fault, or as far as memory went
pub record HearsFront (old : Hearing) (piece : List ℕ) (new : Hearing) : Type 0 where
  pub front : List ℕ
  pub rest : List ℕ
  pub whole : piece ≡ front ++ rest
  pub count : ℕ
  pub hears : Hears old front count new

-- by the answer: all of the piece is heard, or a front of it, and nothing more is taken
abbrev pub FeedsSo : Hearing → List ℕ → Hearing → Result ℕ MirrorError → Type 0
FeedsSo old piece new (Ok count) = Hears old piece count new × (new.ended ≡ None)
FeedsSo old piece new (Err error) = HearsFront old piece new × (new.ended ≡ Some error)

-- bytes up to the end of the first reply, or all, are heard; or a front of them, and nothing more
-- is taken
abbrev pub FeedsFirst : Hearing → List ℕ → Hearing → Result Taken MirrorError → Type 0
FeedsFirst old piece new (Ok taken) = (taken.used ≤ length piece)
    × (0 < length piece → 0 < taken.used) × (taken.count ≤ taken.used)
    × Hears old (take taken.used piece) taken.count new × (new.ended ≡ None)
FeedsFirst old piece new (Err error) = HearsFront old piece new × (new.ended ≡ Some error)

-- a reply, or what is none, is heard at a place
pub record HearsAt (old : Hearing) (at : ℕ) (message : List (List ℕ)) (new : Hearing)
    (ended : Option MirrorError) : Type 0 where
  pub reply : Option Told
  pub finds : FindsReply message reply
  pub new_is : new ≡ record old { moves = Heard at reply ∷ old.moves; ended = ended }

-- by the answer: it is heard, and expected; or it isn't; or memory ran out
abbrev pub HearsReply : Hearing → ℕ → List (List ℕ) → Hearing → Result (Unit {0}) MirrorError
    → Type 0
HearsReply old at message new (Ok done) = HearsAt old at message new None
HearsReply old at message new (Err (Fault fault)) =
    HearsAt old at message new (Some (Fault fault))
HearsReply old at message new (Err NoMemory) = new ≡ record old { ended = Some NoMemory }
