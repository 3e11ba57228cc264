-- What answers do by their kinds: assignments, removals and protocols; the others nothing.
use Rattle.std.proofs.Common.{◌≡◌, ℕ, Bool, true, false, List, Ok, Err, refl}
use Rattle.message_values.specs.declared.editor_message.EditorMessage.TheVariants as asks
use Rattle.message_values.specs.declared.protocol.Protocol.{Protocol}
use Rattle.reply_messages.specs.declared.told.NodeRows.{NodeRows}
use Rattle.reply_messages.specs.declared.told.Told.{Told}
use Rattle.reply_messages.specs.declared.told.Told.TheVariants as tells
use Rattle.mirror_rules.specs.Answers.{Read}
use Rattle.mirror_rules.specs.Images.{Mirror}
use Rattle.mirror_rules.specs.Replies.{after_answer}
use Rattle.pide_mirror.specs.Knowing.{is_wrong}

-- the reply is an assignment
abbrev pub assigns : Told → Bool
assigns (tells.Assign id listed) = true
assigns told = false

-- it changes what is known
abbrev pub changes : Told → Bool
changes (tells.Assign id listed) = true
changes (tells.Removed ids) = true
changes (tells.Protocol protocol) = true
changes told = false

-- what assigns nothing assigns nothing wrong
pub not_wrong : (m : Mirror) (read : Read) (told : Told) → assigns told ≡ false → is_wrong m read told ≡ false
not_wrong m (Err reason) told out = refl
not_wrong m (Ok (asks.Snapshot version node edits)) told out = refl
not_wrong m (Ok (asks.Cancel exec)) told out = refl
not_wrong m (Ok (asks.RemoveVersions versions)) told out = refl
not_wrong m (Ok (asks.Settle version)) told out = refl
not_wrong m (Ok (asks.Protocol protocol)) told out = refl
not_wrong m (Ok (asks.Claim worker)) told out = refl
not_wrong m (Ok (asks.Finish worker)) told out = refl
not_wrong m (Ok (asks.Theory node text)) told out = refl
not_wrong m (Ok (asks.Update version items blobs)) (tells.Assign id listed) out = absurd (cc)
not_wrong m (Ok (asks.Update version items blobs)) (tells.Markup id name reports pending stale) out = refl
not_wrong m (Ok (asks.Update version items blobs)) (tells.Cancelled e) out = refl
not_wrong m (Ok (asks.Update version items blobs)) (tells.Idle e) out = refl
not_wrong m (Ok (asks.Update version items blobs)) (tells.Removed ids) out = refl
not_wrong m (Ok (asks.Update version items blobs)) (tells.Settled id stuck) out = refl
not_wrong m (Ok (asks.Update version items blobs)) (tells.Protocol told) out = refl
not_wrong m (Ok (asks.Update version items blobs)) (tells.Refused reason) out = refl
not_wrong m (Ok (asks.Update version items blobs)) (tells.Claimed w part) out = refl
not_wrong m (Ok (asks.Update version items blobs)) (tells.Report part reports) out = refl
not_wrong m (Ok (asks.Update version items blobs)) (tells.Dropped part) out = refl
not_wrong m (Ok (asks.Update version items blobs)) (tells.Built name reports) out = refl
not_wrong m (Ok (asks.Update version items blobs)) (tells.Total count errors) out = refl

-- what changes nothing leaves all as it was
pub after_same : (m : Mirror) (read : Read) (told : Told) → changes told ≡ false → after_answer m read told ≡ m
after_same m (Err reason) told out = refl
after_same m (Ok (asks.Update version items blobs)) (tells.Assign id listed) out = absurd (cc)
after_same m (Ok (asks.Update version items blobs)) (tells.Markup id name reports pending stale) out = refl
after_same m (Ok (asks.Update version items blobs)) (tells.Cancelled e) out = refl
after_same m (Ok (asks.Update version items blobs)) (tells.Idle e) out = refl
after_same m (Ok (asks.Update version items blobs)) (tells.Removed ids) out = absurd (cc)
after_same m (Ok (asks.Update version items blobs)) (tells.Settled id stuck) out = refl
after_same m (Ok (asks.Update version items blobs)) (tells.Protocol told) out = absurd (cc)
after_same m (Ok (asks.Update version items blobs)) (tells.Refused reason) out = refl
after_same m (Ok (asks.Update version items blobs)) (tells.Claimed w part) out = refl
after_same m (Ok (asks.Update version items blobs)) (tells.Report part reports) out = refl
after_same m (Ok (asks.Update version items blobs)) (tells.Dropped part) out = refl
after_same m (Ok (asks.Update version items blobs)) (tells.Built name reports) out = refl
after_same m (Ok (asks.Update version items blobs)) (tells.Total count errors) out = refl
after_same m (Ok (asks.Snapshot version node edits)) told out = refl
after_same m (Ok (asks.Cancel exec)) told out = refl
after_same m (Ok (asks.RemoveVersions versions)) (tells.Assign id listed) out = absurd (cc)
after_same m (Ok (asks.RemoveVersions versions)) (tells.Markup id name reports pending stale) out = refl
after_same m (Ok (asks.RemoveVersions versions)) (tells.Cancelled e) out = refl
after_same m (Ok (asks.RemoveVersions versions)) (tells.Idle e) out = refl
after_same m (Ok (asks.RemoveVersions versions)) (tells.Removed ids) out = absurd (cc)
after_same m (Ok (asks.RemoveVersions versions)) (tells.Settled id stuck) out = refl
after_same m (Ok (asks.RemoveVersions versions)) (tells.Protocol told) out = absurd (cc)
after_same m (Ok (asks.RemoveVersions versions)) (tells.Refused reason) out = refl
after_same m (Ok (asks.RemoveVersions versions)) (tells.Claimed w part) out = refl
after_same m (Ok (asks.RemoveVersions versions)) (tells.Report part reports) out = refl
after_same m (Ok (asks.RemoveVersions versions)) (tells.Dropped part) out = refl
after_same m (Ok (asks.RemoveVersions versions)) (tells.Built name reports) out = refl
after_same m (Ok (asks.RemoveVersions versions)) (tells.Total count errors) out = refl
after_same m (Ok (asks.Settle version)) told out = refl
after_same m (Ok (asks.Protocol protocol)) (tells.Assign id listed) out = absurd (cc)
after_same m (Ok (asks.Protocol protocol)) (tells.Markup id name reports pending stale) out = refl
after_same m (Ok (asks.Protocol protocol)) (tells.Cancelled e) out = refl
after_same m (Ok (asks.Protocol protocol)) (tells.Idle e) out = refl
after_same m (Ok (asks.Protocol protocol)) (tells.Removed ids) out = absurd (cc)
after_same m (Ok (asks.Protocol protocol)) (tells.Settled id stuck) out = refl
after_same m (Ok (asks.Protocol protocol)) (tells.Protocol told) out = absurd (cc)
after_same m (Ok (asks.Protocol protocol)) (tells.Refused reason) out = refl
after_same m (Ok (asks.Protocol protocol)) (tells.Claimed w part) out = refl
after_same m (Ok (asks.Protocol protocol)) (tells.Report part reports) out = refl
after_same m (Ok (asks.Protocol protocol)) (tells.Dropped part) out = refl
after_same m (Ok (asks.Protocol protocol)) (tells.Built name reports) out = refl
after_same m (Ok (asks.Protocol protocol)) (tells.Total count errors) out = refl
after_same m (Ok (asks.Claim worker)) told out = refl
after_same m (Ok (asks.Finish worker)) told out = refl
after_same m (Ok (asks.Theory node text)) told out = refl

-- what changes nothing assigns nothing
pub changes_assigns : (told : Told) → changes told ≡ false → assigns told ≡ false
changes_assigns (tells.Assign id listed) is = absurd (cc)
changes_assigns (tells.Markup id name reports pending stale) is = refl
changes_assigns (tells.Cancelled e) is = refl
changes_assigns (tells.Idle e) is = refl
changes_assigns (tells.Removed ids) is = absurd (cc)
changes_assigns (tells.Settled id stuck) is = refl
changes_assigns (tells.Protocol protocol) is = absurd (cc)
changes_assigns (tells.Refused reason) is = refl
changes_assigns (tells.Claimed w part) is = refl
changes_assigns (tells.Report part reports) is = refl
changes_assigns (tells.Dropped part) is = refl
changes_assigns (tells.Built name reports) is = refl
changes_assigns (tells.Total count errors) is = refl

-- what is none of the three changes nothing
pub other_kind : (told : Told) → ((id : ℕ) (listed : List NodeRows) → told ≡ tells.Assign id listed → ⊥) → ((ids : List ℕ) → told ≡ tells.Removed ids → ⊥)
    → ((protocol : Protocol) → told ≡ tells.Protocol protocol → ⊥) → changes told ≡ false
other_kind (tells.Assign id listed) a r p = absurd (a id listed refl)
other_kind (tells.Markup id name reports pending stale) a r p = refl
other_kind (tells.Cancelled e) a r p = refl
other_kind (tells.Idle e) a r p = refl
other_kind (tells.Removed ids) a r p = absurd (r ids refl)
other_kind (tells.Settled id stuck) a r p = refl
other_kind (tells.Protocol protocol) a r p = absurd (p protocol refl)
other_kind (tells.Refused reason) a r p = refl
other_kind (tells.Claimed w part) a r p = refl
other_kind (tells.Report part reports) a r p = refl
other_kind (tells.Dropped part) a r p = refl
other_kind (tells.Built name reports) a r p = refl
other_kind (tells.Total count errors) a r p = refl
