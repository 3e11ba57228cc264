-- Which lists of items are legal, the newest item first (this project's own).
use Rattle.std.specs.Prelude.{◌≡◌, ℕ, false, List, [], ◌∷◌, length}
use Rattle.language.specs.Lang.{Lang}
use Rattle.reply_outbox.specs.declared.item.Item.TheVariants as item
use Rattle.reply_outbox.specs.Items.{is_lost}
use Rattle.session_rules.specs.declared.service.Service.{Service}
use Rattle.session_rules.specs.Heard.{heard}
use Rattle.session_rules.specs.Legal.{MayFollow}
use Rattle.keeping_rules.specs.Items.{SessionItem, heard_in, writer_of}
use Rattle.keeping_rules.specs.Pieces.{pieces, AreWaiting}

-- the writer takes the reply that waited longest
pub record MaySend {S : Type 0} (l : Lang S) (service : Service) (items : List SessionItem)
    (writer len : ℕ) : Type 0 where
  pub writer_is : writer ≡ writer_of service
  pub going : is_lost items ≡ false
  pub bytes : List ℕ
  pub behind : List (List ℕ)
  pub first : AreWaiting (pieces l service (heard_in service items)) items (bytes ∷ behind)
  pub len_is : len ≡ length bytes

-- the item may stand before these, which are not none
abbrev pub MayStand : {S : Type 0} → Lang S → Service → List SessionItem → SessionItem → Type 0
MayStand l service items (item.Opened other) = ⊥
MayStand l service items (item.Made entry) =
    MayFollow l service (heard_in service items) (heard service entry)
MayStand l service items (item.Sent writer len) = MaySend l service items writer len
MayStand l service items (item.Lost writer) =
    (writer ≡ writer_of service) × (is_lost items ≡ false)

-- the list opens by how the session is served, and each item may stand where it stands
abbrev pub AreLegal : {S : Type 0} → Lang S → Service → List SessionItem → Type 0
AreLegal l service [] = ⊥
AreLegal l service (first ∷ []) = first ≡ item.Opened service
AreLegal l service (newest ∷ before ∷ items) =
    AreLegal l service (before ∷ items) × MayStand l service (before ∷ items) newest
