-- What the writer is handed in a turn (this project's own).
use Rattle.std.specs.Prelude.{◌≡◌, ◌≢◌, ◌⊎◌, ℕ, ◌+◌, true, List, [], ◌∷◌, ◌++◌, length, reverse}
use Rattle.language.specs.Lang.{Lang}
use Rattle.reply_outbox.specs.declared.item.Item.TheVariants as item
use Rattle.reply_outbox.specs.Items.{is_lost}
use Rattle.document_session.specs.keeping_rules_below.Items.{SessionItem}
use Rattle.view_laws.specs.Callers.{worker_count}
use Rattle.view_laws.specs.Idle.{Waits}
use Rattle.thread_serve.specs.declared.sending.Sending.{Sending}
use Rattle.thread_serve.specs.declared.sending.Sending.TheVariants as sending
use Rattle.thread_serve.specs.Ends.{HasEnded, IsGoing}

module _ {S : Type 0} (l : Lang S) where
  -- the reply that waited longest is taken
  abbrev pub TakesPiece : List SessionItem → List ℕ → List SessionItem → Type 0
  TakesPiece old bytes new = ((behind : List (List ℕ)) × Waits l old (bytes ∷ behind))
      × (new ≡ old ++ item.Sent (worker_count old + 1) (length bytes) ∷ [])

  -- none is, where none waits or the sink is lost
  abbrev pub FindsNone : List SessionItem → List SessionItem → Type 0
  FindsNone old new = (new ≡ old) × (Waits l old [] ⊎ (is_lost (reverse old) ≡ true))

  -- the writer is handed the reply that waited longest; nothing only where none waits or the sink
  -- is lost
  abbrev pub SendsSo : ℕ → List SessionItem → Sending → List SessionItem → Type 0
  SendsSo who old (sending.Piece piece) new =
      (who ≡ worker_count old + 1) × TakesPiece old piece.items new
  SendsSo who old sending.Nothing new =
      (who ≡ worker_count old + 1) × IsGoing l old × FindsNone old new
  SendsSo who old sending.Ended new = (new ≡ old) × HasEnded l old
  SendsSo who old sending.NotWriter new = (new ≡ old) × (who ≢ worker_count old + 1)
