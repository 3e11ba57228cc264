-- What a decoder makes of bytes is heard.
use Rattle.std.proofs.Common.{◌≡◌, ℕ, ◌+◌, inl, List, [], ◌∷◌, ◌++◌, length, Option, Some, None, refl, ap, sym, subst, ◌∙◌, arith, append_assoc}
use Rattle.std.proofs.lemmas.List.{append-nil, length-append}
use Rattle.byte_message.specs.First.{MakesWhole, StaysShort, TurnsBad}
use Rattle.byte_message.specs.Kept.{Framing}
use Rattle.byte_message.specs.Stream.{IsShort, told_place, placed_fault}
use Rattle.byte_message.specs.declared.frame_fault.FrameFault.{FrameFault}
use Rattle.reply_messages.specs.FoundReplies.{FindsReply}
use Rattle.reply_messages.specs.declared.told.Told.{Told}
use Rattle.mirror_rules.specs.Events.{AreHeard, AreMoves, AreSpelled, heard_moves, stream}
use Rattle.mirror_rules.specs.Moves.{Move, Heard, Broken}
use Rattle.pide_mirror.specs.Feeding.{Hears}
use Rattle.pide_mirror.specs.Hearing.{Hearing}
use Rattle.pide_mirror.proofs.Joining.{heard_all}

-- what is added to a place as it is told is told as if it was added to the place
told_more : (n m : ℕ) → told_place (told_place n + m) ≡ told_place (n + m)
told_more n m = omega arith

module _ (old new : Hearing) (going : old.ended ≡ None) (mode : new.mode ≡ old.mode) (piece : List ℕ) where
  -- a piece that makes no message
  pub hears_short : new.moves ≡ old.moves → StaysShort old.frames piece new.frames → Hears old piece 0 new
  hears_short moves made = record {
    mode = mode;
    newer = [];
    count = refl;
    moves = moves;
    heard = λ events h.
        let k = h.kept going in
        let all : stream events ++ piece ≡ k.front ++ (old.frames.rest ++ piece) = ap (λ bs. bs ++ piece) k.whole ∙ append_assoc k.front old.frames.rest piece in
        record {
          moves = h.moves;
          come = (
            h.moves,
            [],
            refl,
            refl,
            subst (λ m. AreMoves m events h.moves) (sym mode) h.come,
            subst (λ bytes. AreHeard bytes (heard_moves h.moves)) (sym all) (heard_all k.front (old.frames.rest ++ piece) (heard_moves h.moves) k.spelled made.short),
          );
          noted = moves ∙ h.noted;
          kept = λ still. record {
            front = k.front;
            whole = all ∙ ap (λ bs. k.front ++ bs) (sym made.rest);
            spelled = k.spelled;
            short = subst IsShort (sym made.rest) made.short;
            at = made.at ∙ k.at;
          };
        };
  }

  -- one that makes a message whole, which is heard
  pub hears_whole : (reply : Option Told) (frames : Framing) (w : MakesWhole old.frames piece frames) → FindsReply w.message reply
      → new.moves ≡ Heard old.frames.at reply ∷ old.moves → new.frames.rest ≡ frames.rest → new.frames.at ≡ frames.at → Hears old piece 1 new
  hears_whole reply frames w finds moves rest_is at_is = record {
    mode = mode;
    newer = Heard old.frames.at reply ∷ [];
    count = refl;
    moves = moves;
    heard = λ events h.
        let k = h.kept going in
        let all : stream events ++ piece ≡ k.front ++ (old.frames.rest ++ piece) = ap (λ bs. bs ++ piece) k.whole ∙ append_assoc k.front old.frames.rest piece in
        let more : List Move = Heard (length k.front) reply ∷ h.moves in
        let spelled : AreSpelled (k.front ++ (old.frames.rest ++ piece)) (heard_moves more)
        = (k.front, old.frames.rest ++ piece, w.message, refl, w.spelled, finds, refl, k.spelled) in
        record {
          moves = more;
          come = (
            h.moves,
            Heard (length k.front) reply ∷ [],
            refl,
            refl,
            subst (λ m. AreMoves m events h.moves) (sym mode) h.come,
            subst (λ bytes. AreHeard bytes (heard_moves more)) (append-nil (k.front ++ (old.frames.rest ++ piece)) ∙ sym all)
                (heard_all (k.front ++ (old.frames.rest ++ piece)) [] (heard_moves more) spelled (inl refl)),
          );
          noted = moves ∙ ap (λ n. Heard n reply ∷ old.moves) k.at ∙ ap (λ ms. Heard (told_place (length k.front)) reply ∷ ms) h.noted;
          kept = λ still. record {
            front = k.front ++ (old.frames.rest ++ piece);
            whole = all ∙ sym (append-nil (k.front ++ (old.frames.rest ++ piece))) ∙ ap (λ bs. (k.front ++ (old.frames.rest ++ piece)) ++ bs) (sym (rest_is ∙ w.rest));
            spelled = spelled;
            short = subst IsShort (sym (rest_is ∙ w.rest)) (inl refl);
            at = at_is ∙ w.at ∙ ap (λ n. told_place (n + length (old.frames.rest ++ piece))) k.at ∙ told_more (length k.front) (length (old.frames.rest ++ piece))
                ∙ ap told_place (sym (length-append k.front (old.frames.rest ++ piece)));
          };
        };
  }

  -- one whose line isn't fit
  pub hears_broken : (fault : FrameFault) (frames : Framing) (bad : TurnsBad old.frames piece frames) → frames.fault ≡ Some fault
      → new.moves ≡ Broken fault ∷ old.moves → (new.ended ≡ None → ⊥) → Hears old piece 1 new
  hears_broken fault frames bad is moves ended = record {
    mode = mode;
    newer = Broken fault ∷ [];
    count = refl;
    moves = moves;
    heard = λ events h.
        let k = h.kept going in
        let both : Some fault ≡ Some (placed_fault old.frames.at bad.wrong) = sym is ∙ bad.fault in
        let fault_is : fault ≡ placed_fault old.frames.at bad.wrong = cc in
        record {
          moves = Broken fault ∷ h.moves;
          come = (
            h.moves,
            Broken fault ∷ [],
            refl,
            refl,
            subst (λ m. AreMoves m events h.moves) (sym mode) h.come,
            (
              k.front,
              old.frames.rest ++ piece,
              ap (λ bs. bs ++ piece) k.whole ∙ append_assoc k.front old.frames.rest piece,
              (bad.wrong, bad.faulty, fault_is ∙ ap (λ n. placed_fault n bad.wrong) k.at),
              k.spelled,
            ),
          );
          noted = moves ∙ ap (λ ms. Broken fault ∷ ms) h.noted;
          kept = λ still. absurd (ended still);
        };
  }
