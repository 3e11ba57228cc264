-- One whole reply more is heard, or one message more is sent.
use Rattle.std.proofs.Common.{◌≡◌, ℕ, List, [], ◌∷◌, ◌++◌, length, Some, None, inl, refl, sym, ap, subst, ◌∙◌, append-nil}
use Rattle.byte_message.specs.Stream.{IsMessage, IsSpelling, plain_spelling, told_place}
use Rattle.message_values.specs.declared.mode.Mode.{Mode}
use Rattle.message_values.specs.Asked.{asked}
use Rattle.reply_messages.specs.declared.told.Told.{Told}
use Rattle.reply_messages.specs.Replies.{reply_chunks}
use Rattle.reply_messages.specs.FoundReplies.{IsReply}
use Rattle.mirror_rules.specs.Events.{AreMoves, AreSpelled, MirrorEvent, Fed, Given, heard_moves, stream}
use Rattle.mirror_rules.specs.Moves.{Move, Sent, Heard}
use Rattle.pide_mirror.specs.Feeding.{Hears}
use Rattle.pide_mirror.specs.Hearing.{HasHeard, Hearing, told_move, told_moves}
use Rattle.mirror_serve.specs.Resting.{IsBetween}

-- what an editor sends and hears comes to one list of moves
abbrev pub OneWay : Type 0
OneWay = (mode : Mode) (events : List MirrorEvent) (moves others : List Move) → AreMoves mode events moves → AreMoves mode events others → moves ≡ others

-- what is written is spelled
abbrev pub IsWritten : Type 0
IsWritten = (message : List (List ℕ)) → IsMessage message → IsSpelling (plain_spelling message) message

-- before anything was sent or heard
pub between_first : (mode : Mode) (now : Hearing) → now.mode ≡ mode → now.ended ≡ None → HasHeard [] now → IsBetween mode now
between_first mode now is fine heard = record {
  mode_is = is;
  fine = fine;
  events = [];
  heard = heard;
  whole = subst (λ ms. AreSpelled [] (heard_moves ms)) (sym heard.come) refl;
}

-- nothing is told then
pub moves_first : (now : Hearing) → HasHeard [] now → now.moves ≡ []
moves_first now heard = heard.noted ∙ ap told_moves heard.come

module _ (one : OneWay) (mode : Mode) (old new : Hearing) (b : IsBetween mode old) where
  abbrev before : List Move
  before = b.heard.moves

  -- a message is sent
  module _ (message : List (List ℕ)) (is : new ≡ record old { moves = Sent (asked old.mode message) ∷ old.moves })
      (goes_on : (events : List MirrorEvent) → HasHeard events old → HasHeard (Given message ∷ events) new) where
    pub between_sent : IsBetween mode new
    between_sent =
        let r = goes_on b.events b.heard in
        let mode_new : new.mode ≡ old.mode = ap (λ (h : Hearing). h.mode) is in
        let come = r.come in
        let earlier : come.0 ≡ before = one old.mode b.events come.0 before (subst (λ m. AreMoves m b.events come.0) mode_new come.2) b.heard.come in
        let same : heard_moves r.moves ≡ heard_moves before = ap heard_moves come.1 ∙ ap heard_moves earlier in
        record {
          mode_is = mode_new ∙ b.mode_is;
          fine = ap (λ (h : Hearing). h.ended) is ∙ b.fine;
          events = Given message ∷ b.events;
          heard = r;
          whole = subst (AreSpelled (stream b.events)) (sym same) b.whole;
        }

  -- a reply is heard
  module _ (written : IsWritten) (told : Told) (message : IsMessage (reply_chunks told)) (reply : IsReply told) where
    abbrev bytes : List ℕ
    bytes = plain_spelling (reply_chunks told)

    abbrev move : Move
    move = Heard (length (stream b.events)) (Some told)

    more_spelled : AreSpelled (stream b.events ++ bytes) (move ∷ heard_moves before)
    more_spelled = (stream b.events, bytes, reply_chunks told, refl, written (reply_chunks told) message, (reply, refl), refl, b.whole)

    more_come : AreMoves old.mode (Fed bytes ∷ b.events) (move ∷ before)
    more_come = (
      before,
      move ∷ [],
      refl,
      refl,
      b.heard.come,
      (stream b.events ++ bytes, [], sym (append-nil (stream b.events ++ bytes)), inl refl, more_spelled),
    )

    module _ (count : ℕ) (hears : Hears old bytes count new) (fine : new.ended ≡ None) where
      abbrev r : HasHeard (Fed bytes ∷ b.events) new
      r = hears.heard b.events b.heard

      moves_are : r.moves ≡ move ∷ before
      moves_are = one old.mode (Fed bytes ∷ b.events) r.moves (move ∷ before)
          (subst (λ m. AreMoves m (Fed bytes ∷ b.events) r.moves) hears.mode r.come) more_come

      pub between_heard : IsBetween mode new
      between_heard = record {
        mode_is = hears.mode ∙ b.mode_is;
        fine = fine;
        events = Fed bytes ∷ b.events;
        heard = r;
        whole = subst (λ ms. AreSpelled (stream b.events ++ bytes) (heard_moves ms)) (sym moves_are) more_spelled;
      }

      pub heard_move : new.moves ≡ Heard (told_place (length (stream b.events))) (Some told) ∷ old.moves
      heard_move = r.noted ∙ ap told_moves moves_are ∙ ap (λ ms. told_move move ∷ ms) (sym b.heard.noted)
