-- The loss of the sink.
use Rattle.std.proofs.Common.{◌≡◌, true, List, ◌∷◌, refl}
use Rattle.reply_outbox.specs.declared.item.Item.{Item}
use Rattle.reply_outbox.specs.declared.item.Item.TheVariants as item
use Rattle.reply_outbox.specs.Items.{is_lost}

-- what is lost stays so
pub stays_lost : {O E : Type 0} (x : Item O E) (items : List (Item O E))
    → is_lost items ≡ true → is_lost (x ∷ items) ≡ true
stays_lost (item.Opened how) items e = e
stays_lost (item.Made entry) items e = e
stays_lost (item.Sent writer len) items e = e
stays_lost (item.Lost writer) items e = refl
