-- Replies with a chunk that is too long for a byte message (this project's own).
use Rattle.std.specs.Prelude.{◌≡◌, ℕ, List, [], ◌∷◌, ⊤}
use Rattle.std.specs.List.{flat_map}
use Rattle.pide_base.specs.declared.status.Status.{Status}
use Rattle.pide_base.specs.declared.status.Status.TheVariants as status
use Rattle.byte_message.specs.Long.{long_lengths}
use Rattle.language.specs.Lang.{Lang}
use Rattle.reply_outbox.specs.Items.{entries}
use Rattle.reply_messages.specs.declared.told.Told.{Told}
use Rattle.reply_messages.specs.declared.told.Told.TheVariants as tells
use Rattle.reply_messages.specs.Replies.{reply_chunks}
use Rattle.session_rules.specs.declared.entry.Entry.{Entry}
use Rattle.session_rules.specs.declared.service.Service.{Service}
use Rattle.editor_laws.specs.Streams.{all_replies}
use Rattle.document_session.specs.Contents.{SessionState}

-- the lengths of a reply's chunks that are too long; a snapshot may have them
abbrev pub too_long : Told → List ℕ
too_long (tells.Markup version node reports pending outdated) = []
too_long told = long_lengths (reply_chunks told)

-- those in the replies of a history, the oldest first
abbrev pub too_long_in : {S : Type 0} → Lang S → Service → List Entry → List ℕ
too_long_in l service history = flat_map too_long (all_replies l service history)

-- a session's replies have none
abbrev pub HasShortReplies : {S : Type 0} → Lang S → SessionState → Type 0
HasShortReplies l s = too_long_in l s.service (entries s.items) ≡ []

-- the status tells the first of them, just where there is one; where writing fails or memory is
-- short it tells nothing of them
abbrev pub LongSoFar : {S : Type 0} → Lang S → Status → SessionState → Type 0
LongSoFar l status.WriteFault s = ⊤
LongSoFar l status.NoMemory s = ⊤
LongSoFar l (status.BadReply len) s =
    (more : List ℕ) × (too_long_in l s.service (entries s.items) ≡ len ∷ more)
LongSoFar l _ s = HasShortReplies l s
