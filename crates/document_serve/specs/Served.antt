-- What a run did so far, as the session's list tells it (this project's own).
use Rattle.std.specs.Prelude.{◌≡◌, ℕ, false, List, [], ◌∷◌, ◌++◌, length, take, Option}
use Rattle.std.specs.List.{flat_map}
use Rattle.std.specs.Io.KnownBytes.{Appends}
use Rattle.pide_base.specs.Moves.{AppendsFront}
use Rattle.language.specs.Lang.{Lang}
use Rattle.reply_outbox.specs.declared.item.Item.TheVariants as item
use Rattle.reply_outbox.specs.Items.{entries, is_lost, lengths_sent}
use Rattle.session_rules.specs.declared.entry.Entry.{Entry}
use Rattle.session_rules.specs.declared.entry.Entry.TheVariants as entry
use Rattle.session_rules.specs.declared.service.Service.{Service}
use Rattle.session_rules.specs.Replies.{replies}
use Rattle.document_session.specs.keeping_rules_below.Items.{SessionItem, heard_in, writer_of}
use Rattle.document_session.specs.keeping_rules_below.Pieces.{pieces}
use Rattle.document_session.specs.Contents.{SessionState}

-- nothing was done since the sink was lost
pub record IsLostLast (s : SessionState) : Type 0 where
  pub before : List SessionItem
  pub is : s.items ≡ item.Lost (writer_of s.service) ∷ before
  pub kept : is_lost before ≡ false

-- the messages of a history's calls, in order
abbrev pub calls : List Entry → List (List (List ℕ))
calls [] = []
calls (entry.Call message ∷ h) = calls h ++ message ∷ []
calls (other ∷ h) = calls h

-- those of a list's entries
abbrev pub calls_in : List SessionItem → List (List (List ℕ))
calls_in items = calls (entries items)

-- a history is longer by entries that are no calls
pub record IsWorkedOn (old new : List Entry) : Type 0 where
  pub worked : List Entry
  pub is : new ≡ worked ++ old
  pub none_called : calls worked ≡ []

-- a history is longer by a message, before and behind whose call others may stand that are no calls
pub record HasAnswered (message : List (List ℕ)) (old new : List Entry) : Type 0 where
  pub before : List Entry
  pub works : IsWorkedOn old before
  pub done : IsWorkedOn (entry.Call message ∷ before) new

-- all that the entries of a list call for
abbrev pub replies_in : {S : Type 0} → Lang S → Service → List SessionItem → List ℕ
replies_in l service items = replies l service (heard_in service items)

-- the replies that a list tells as sent, joined
abbrev pub sent_in : {S : Type 0} → Lang S → Service → List SessionItem → List ℕ
sent_in l service items = flat_map (λ bytes. bytes)
    (take (length (lengths_sent items)) (pieces l service (heard_in service items)))

-- it tells all of them as sent
abbrev pub AllSent : {S : Type 0} → Lang S → Service → List SessionItem → Type 0
AllSent l service items =
    length (lengths_sent items) ≡ length (pieces l service (heard_in service items))

-- a sink that holds just what the one list tells as sent comes to hold just what the other does
abbrev pub WritesOn : {S : Type 0} → Lang S → Option (List ℕ) → Option (List ℕ) → SessionState
    → SessionState → Type 0
WritesOn l held held' old new =
    (first : Option (List ℕ)) → Appends first held (sent_in l old.service old.items)
    → Appends first held' (sent_in l new.service new.items)

-- or all that the other calls for
abbrev pub WritesAll : {S : Type 0} → Lang S → Option (List ℕ) → Option (List ℕ) → SessionState
    → SessionState → Type 0
WritesAll l held held' old new =
    (first : Option (List ℕ)) → Appends first held (sent_in l old.service old.items)
    → Appends first held' (replies_in l new.service new.items)

-- or a front of what the other tells as sent
abbrev pub WritesSome : {S : Type 0} → Lang S → Option (List ℕ) → Option (List ℕ) → SessionState
    → SessionState → Type 0
WritesSome l held held' old new =
    (first : Option (List ℕ)) → Appends first held (sent_in l old.service old.items)
    → AppendsFront first held' (sent_in l new.service new.items)

-- or a front of all that the other calls for
abbrev pub WritesFront : {S : Type 0} → Lang S → Option (List ℕ) → Option (List ℕ) → SessionState
    → SessionState → Type 0
WritesFront l held held' old new =
    (first : Option (List ℕ)) → Appends first held (sent_in l old.service old.items)
    → AppendsFront first held' (replies_in l new.service new.items)
