-- Which messages have answers of these kinds.
use Rattle.std.proofs.Common.{◌≡◌, ℕ, true, List, Ok, Err, refl}
use Rattle.message_values.specs.declared.editor_message.EditorMessage.TheVariants as asks
use Rattle.message_values.specs.declared.item.Item.{Item}
use Rattle.message_values.specs.declared.item.BlobChange.{BlobChange}
use Rattle.message_values.specs.declared.protocol.Protocol.{Protocol}
use Rattle.reply_messages.specs.declared.told.NodeRows.{NodeRows}
use Rattle.reply_messages.specs.declared.told.Told.TheVariants as tells
use Rattle.mirror_rules.specs.Answers.{Read, can_answer}

pub asks_update : (read : Read) (id : ℕ) (listed : List NodeRows) → can_answer read (tells.Assign id listed) ≡ true
    → (version : ℕ) × (items : List Item) × (blobs : List BlobChange) × (read ≡ Ok (asks.Update version items blobs))
asks_update (Err reason) id listed is = absurd (cc)
asks_update (Ok (asks.Update version items blobs)) id listed is = (version, items, blobs, refl)
asks_update (Ok (asks.Snapshot version node edits)) id listed is = absurd (cc)
asks_update (Ok (asks.Cancel exec)) id listed is = absurd (cc)
asks_update (Ok (asks.RemoveVersions versions)) id listed is = absurd (cc)
asks_update (Ok (asks.Settle version)) id listed is = absurd (cc)
asks_update (Ok (asks.Protocol protocol)) id listed is = absurd (cc)
asks_update (Ok (asks.Claim worker)) id listed is = absurd (cc)
asks_update (Ok (asks.Finish worker)) id listed is = absurd (cc)
asks_update (Ok (asks.Theory node text)) id listed is = absurd (cc)

pub asks_removal : (read : Read) (ids : List ℕ) → can_answer read (tells.Removed ids) ≡ true → (versions : List ℕ) × (read ≡ Ok (asks.RemoveVersions versions))
asks_removal (Err reason) ids is = absurd (cc)
asks_removal (Ok (asks.Update version items blobs)) ids is = absurd (cc)
asks_removal (Ok (asks.Snapshot version node edits)) ids is = absurd (cc)
asks_removal (Ok (asks.Cancel exec)) ids is = absurd (cc)
asks_removal (Ok (asks.RemoveVersions versions)) ids is = (versions, refl)
asks_removal (Ok (asks.Settle version)) ids is = absurd (cc)
asks_removal (Ok (asks.Protocol protocol)) ids is = absurd (cc)
asks_removal (Ok (asks.Claim worker)) ids is = absurd (cc)
asks_removal (Ok (asks.Finish worker)) ids is = absurd (cc)
asks_removal (Ok (asks.Theory node text)) ids is = absurd (cc)

pub asks_protocol : (read : Read) (told : Protocol) → can_answer read (tells.Protocol told) ≡ true → (protocol : Protocol) × (read ≡ Ok (asks.Protocol protocol))
asks_protocol (Err reason) told is = absurd (cc)
asks_protocol (Ok (asks.Update version items blobs)) told is = absurd (cc)
asks_protocol (Ok (asks.Snapshot version node edits)) told is = absurd (cc)
asks_protocol (Ok (asks.Cancel exec)) told is = absurd (cc)
asks_protocol (Ok (asks.RemoveVersions versions)) told is = absurd (cc)
asks_protocol (Ok (asks.Settle version)) told is = absurd (cc)
asks_protocol (Ok (asks.Protocol protocol)) told is = (protocol, refl)
asks_protocol (Ok (asks.Claim worker)) told is = absurd (cc)
asks_protocol (Ok (asks.Finish worker)) told is = absurd (cc)
asks_protocol (Ok (asks.Theory node text)) told is = absurd (cc)
