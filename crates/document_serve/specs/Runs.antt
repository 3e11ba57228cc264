-- How messages are answered on one thread, and how that stops (this project's own).
use Rattle.std.specs.Prelude.{◌≡◌, ℕ, false, List, ◌∷◌, ◌++◌, Option, Result, Ok, Err}
use Rattle.reply_outbox.specs.declared.item.Item.TheVariants.{Made}
use Rattle.reply_outbox.specs.Items.{entries, is_lost}
use Rattle.language.specs.Lang.{Lang}
use Rattle.session_rules.specs.declared.entry.Entry.TheVariants as entry
use Rattle.document_session.specs.keeping_rules_below.Items.{heard_in}
use Rattle.document_session.specs.keeping_rules_below.Legal.{AreLegal}
use Rattle.document_session.specs.Contents.{SessionState}
use Rattle.message_input.specs.declared.answering.Halt.{Halt}
use Rattle.message_input.specs.declared.answering.Halt.TheVariants as halt
use Rattle.document_serve.specs.Served.{AllSent, IsLostLast, WritesOn, WritesFront, WritesSome, calls_in}
use Rattle.document_serve.specs.Going.{IsAtRest, IsWorkedFor, IsLeftFor}

-- the session's history is as it was, and its list is legal
pub record IsSame {S : Type 0} (l : Lang S) (old new : SessionState) : Type 0 where
  pub service : new.service ≡ old.service
  pub entries_are : entries new.items ≡ entries old.items
  pub legal : AreLegal l new.service new.items

-- all replies that waited are sent and written; or the sink failed, and a front of them is
abbrev pub WrittenSo : {S : Type 0} → Lang S → Option (List ℕ) → Option (List ℕ) → SessionState
    → SessionState → Result (Unit {0}) Halt → Type 0
WrittenSo l held held' old new (Ok done) = IsSame l old new × (is_lost new.items ≡ false)
    × AllSent l new.service new.items × WritesOn l held held' old new
WrittenSo l held held' old new (Err halt.WriteFault) = IsSame l old new
    × WritesFront l held held' old new × WritesSome l held held' old new × IsLostLast new
WrittenSo l held held' old new (Err halt.NoMemory) = ⊥
WrittenSo l held held' old new (Err (halt.BadReply len)) = ⊥

-- these messages were answered, and their replies are written
pub record GoesOn {S : Type 0} (l : Lang S) (held held' : Option (List ℕ)) (old new : SessionState)
    (messages : List (List (List ℕ))) : Type 0 where
  pub service : new.service ≡ old.service
  pub called : calls_in new.items ≡ calls_in old.items ++ messages
  pub rests : IsAtRest l new
  pub writes : WritesOn l held held' old new

-- the first of these messages were answered, and then the sink failed: a front of the replies is
-- written
pub record Fails {S : Type 0} (l : Lang S) (held held' : Option (List ℕ)) (old new : SessionState)
    (first rest : List (List (List ℕ))) : Type 0 where
  pub service : new.service ≡ old.service
  pub legal : AreLegal l new.service new.items
  pub called : calls_in new.items ≡ calls_in old.items ++ first
  pub alone : IsWorkedFor l new.service rest (heard_in new.service new.items)
  pub writes : WritesFront l held held' old new
  pub sends : WritesSome l held held' old new
  pub lost : IsLostLast new

-- the first of these messages were answered, and then memory was short: all replies so far are
-- written
pub record RunsShort {S : Type 0} (l : Lang S) (held held' : Option (List ℕ))
    (old new : SessionState) (first rest : List (List (List ℕ))) : Type 0 where
  pub service : new.service ≡ old.service
  pub legal : AreLegal l new.service new.items
  pub called : calls_in new.items ≡ calls_in old.items ++ first
  pub alone : IsLeftFor l new.service rest (heard_in new.service new.items)
  pub writes : WritesOn l held held' old new
  pub kept : is_lost new.items ≡ false
  pub all : AllSent l new.service new.items

-- so by the halt; it doesn't halt for a long reply
abbrev pub StopsSo : {S : Type 0} → Lang S → Halt → Option (List ℕ) → Option (List ℕ)
    → SessionState → SessionState → List (List (List ℕ)) → List (List (List ℕ)) → Type 0
StopsSo l halt.WriteFault held held' old new first rest = Fails l held held' old new first rest
StopsSo l halt.NoMemory held held' old new first rest = RunsShort l held held' old new first rest
StopsSo l (halt.BadReply len) held held' old new first rest = ⊥

-- the session has ended, and nothing else happened
pub record IsEnded {S : Type 0} (l : Lang S) (old new : SessionState) : Type 0 where
  pub service : new.service ≡ old.service
  pub items : new.items ≡ Made entry.Ended ∷ old.items
  pub legal : AreLegal l new.service new.items
