-- What contracts see of an outbox (this project's own).
use Rattle.std.specs.Prelude.{◌≡◌, ◌+◌, ◌*◌, ◌≤◌, ◌⊎◌, if◌then◌else◌, ℕ, Bool, true, false, List, [], ◌∷◌, length}
use Rattle.std.specs.List.{sum_by}
use Rattle.reply_outbox.specs.declared.item.Item.{Item}
use Rattle.reply_outbox.specs.declared.item.Item.TheVariants as item
use Rattle.reply_outbox.specs.Items.{is_lost}

-- the items, the newest first; the replies that wait, the oldest first; and for how many entries,
-- each with a reply, there is room
pub record Log (O E : Type 0) : Type 0 where
  pub items : List (Item O E)
  pub waiting : List (List ℕ)
  pub free : ℕ

-- there is room for entries with their replies, for what is told when all replies are sent, and for
-- the loss of the sink
pub record HasRoom (lost : Bool) (free waiting capacity room : ℕ) : Type 0 where
  pub replies : waiting + free ≤ capacity
  pub items : 2 * free + waiting + (if lost then 0 else 1) ≤ room

-- the reply that waited longest is sent by this writer
pub record IsSent {O E : Type 0} (writer : ℕ) (bytes : List ℕ) (old new : Log O E) : Type 0 where
  pub first : old.waiting ≡ bytes ∷ new.waiting
  pub told : new.items ≡ item.Sent writer (length bytes) ∷ old.items
  pub going : is_lost old.items ≡ false

-- nothing is sent where no reply waits or the sink is lost
abbrev pub IsStill : {O E : Type 0} → Log O E → Type 0
IsStill log = (log.waiting ≡ []) ⊎ (is_lost log.items ≡ true)

-- how many bytes wait
abbrev pub bytes_waiting : List (List ℕ) → ℕ
bytes_waiting waiting = sum_by (λ reply. length reply) waiting
