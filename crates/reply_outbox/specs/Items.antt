-- What a list of items tells, the newest item first (this project's own).
use Rattle.std.specs.Prelude.{ℕ, Bool, true, false, List, [], ◌∷◌}
use Rattle.reply_outbox.specs.declared.item.Item.{Item}
use Rattle.reply_outbox.specs.declared.item.Item.TheVariants as item

-- the entries among the items
abbrev pub entries : {O E : Type 0} → List (Item O E) → List E
entries [] = []
entries (item.Made entry ∷ items) = entry ∷ entries items
entries (other ∷ items) = entries items

-- the lengths of the replies that were sent
abbrev pub lengths_sent : {O E : Type 0} → List (Item O E) → List ℕ
lengths_sent [] = []
lengths_sent (item.Sent writer len ∷ items) = len ∷ lengths_sent items
lengths_sent (other ∷ items) = lengths_sent items

-- a writer lost the sink
abbrev pub is_lost : {O E : Type 0} → List (Item O E) → Bool
is_lost [] = false
is_lost (item.Lost writer ∷ items) = true
is_lost (other ∷ items) = is_lost items

-- a writer took a reply
abbrev pub has_sent : {O E : Type 0} → List (Item O E) → Bool
has_sent [] = false
has_sent (item.Sent writer len ∷ items) = true
has_sent (other ∷ items) = has_sent items
