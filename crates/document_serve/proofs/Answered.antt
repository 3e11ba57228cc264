-- A message that is answered.
use Rattle.std.proofs.Common.{◌≡◌, ℕ, false, List, [], ◌∷◌, ◌++◌, Option, None, Result, Ok, Err, OnOk, IfErr, sym, ap, subst, ◌∙◌}
use Rattle.std.specs.Io.KnownBytes.{Appends}
use Rattle.language.specs.Lang.{Lang}
use Rattle.core_rules.specs.Standing.{has_ended}
use Rattle.reply_outbox.specs.Items.{is_lost}
use Rattle.session_rules.specs.declared.service.Service.{Service}
use Rattle.session_rules.specs.Services.{free_workers}
use Rattle.session_rules.specs.Heard.{all_heard}
use Rattle.session_rules.specs.Alone.{IsAlone}
use Rattle.document_session.specs.keeping_rules_below.Items.{heard_in, session_in}
use Rattle.document_session.specs.keeping_rules_below.Legal.{AreLegal}
use Rattle.document_session.specs.Contents.{SessionState}
use Rattle.document_serve.specs.Served.{AllSent, IsLostLast, WritesFront, WritesOn, WritesSome, calls, calls_in, sent_in}
use Rattle.document_serve.specs.Going.{IsGoing}
use Rattle.message_input.specs.declared.answering.Halt.{Halt}
use Rattle.message_input.specs.declared.answering.Halt.TheVariants as halt
use Rattle.document_serve.specs.Runs.{Fails, GoesOn, IsSame, WrittenSo}
use Rattle.session_rules.proofs.KnownNamed.{AskedLaw}
use Rattle.document_serve.proofs.Stepping.{IsAfter, going_same, same_in}
use Rattle.document_serve.proofs.At.{IsAt}
use Rattle.document_serve.proofs.Stops.{StopsAmong, fails_behind}

module _ {S : Type 0} (l : Lang S) (law : AskedLaw)
    (held now : Option (List ℕ)) (old s : SessionState) (came message : List (List ℕ)) (a : IsAt l held now old s came message) where
  module _ (mid new : SessionState) (then : Option (List ℕ)) (service : mid.service ≡ s.service) where
    same_service : IsSame l mid new → new.service ≡ old.service
    same_service written = written.service ∙ service ∙ a.service

    same_calls : IsSame l mid new → calls_in new.items ≡ calls_in mid.items
    same_calls written = ap calls written.entries_are

    module _ (after : IsAfter l s.service s.items law message mid.items) (legal : AreLegal l mid.service mid.items) where
      calls_after : IsSame l mid new → calls_in new.items ≡ calls_in old.items ++ came ∷ []
      calls_after written = same_calls written ∙ after.calls_are ∙ ap (λ (ms : List (List (List ℕ))). ms ++ message ∷ []) a.called
          ∙ ap (λ (m : List (List ℕ)). calls_in old.items ++ m ∷ []) a.same

      sent_after : sent_in l mid.service mid.items ≡ sent_in l s.service s.items
      sent_after = ap (λ (v : Service). sent_in l v mid.items) service ∙ after.sent_is

      mid_going : IsGoing l None mid
      mid_going = record {
        legal = legal;
        nobody = ap (λ (v : Service). free_workers v) service ∙ a.going.nobody;
        going = ap (λ (v : Service). has_ended (session_in l v mid.items).events) service ∙ after.going ∙ a.going.going;
        alone = subst (λ (v : Service). IsAlone l v None (heard_in v mid.items)) (sym service) after.alone;
        kept = after.kept ∙ a.going.kept;
      }

      -- the message is answered
      pub goes_on : IsSame l mid new → is_lost new.items ≡ false → AllSent l new.service new.items → WritesOn l now then mid new → GoesOn l held then old new (came ∷ [])
      goes_on written kept sent on = record {
        service = same_service written;
        called = calls_after written;
        rests = record { going = going_same l (λ v h. None) mid new written kept mid_going; sent = sent };
        writes = λ first w. on first (subst (Appends first now) (sym sent_after) (a.writes first w));
      }

      -- it is, but the sink fails
      pub answer_fails : IsSame l mid new → WritesFront l now then mid new → WritesSome l now then mid new → IsLostLast new → Fails l held then old new (came ∷ []) []
      answer_fails written front some lost = record {
        service = same_service written;
        legal = written.legal;
        called = calls_after written;
        alone = same_in l (λ v es. IsAlone l v None (all_heard v es)) mid new written mid_going.alone;
        writes = λ first w. front first (subst (Appends first now) (sym sent_after) (a.writes first w));
        sends = λ first w. some first (subst (Appends first now) (sym sent_after) (a.writes first w));
        lost = lost;
      }

      -- the one or the other
      pub answer_ok : (r : Result (Unit {0}) Halt) → WrittenSo l now then mid new r → OnOk r (GoesOn l held then old new (came ∷ []))
      answer_ok (Ok done) w = goes_on w.0 w.1 w.2 w.3
      answer_ok (Err h) w = tt

      pub answer_err : (r : Result (Unit {0}) Halt) → WrittenSo l now then mid new r → IfErr r (λ h. StopsAmong l held then old (came ∷ []) h new)
      answer_err (Ok done) w = tt
      answer_err (Err halt.WriteFault) w = fails_behind l held then old new came (answer_fails w.0 w.1 w.2 w.3)
      answer_err (Err halt.NoMemory) w = absurd (w)
      answer_err (Err (halt.BadReply len)) w = absurd (w)
