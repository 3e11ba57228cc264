-- A message that was answered at once, and its reply written, the mirror knowing of it.
use Rattle.std.proofs.Common.{◌≡◌, ℕ, List, [], ◌∷◌, Option, Result, Ok, Err, OnOk, IfErr, sym, ap, subst, ◌∙◌, refl}
use Rattle.language.specs.Lang.{Lang}
use Rattle.byte_message.specs.Stream.{IsMessage}
use Rattle.reply_outbox.specs.declared.item.Item.TheVariants.{Made}
use Rattle.reply_outbox.specs.Items.{entries}
use Rattle.session_rules.specs.declared.entry.Entry.{Entry}
use Rattle.session_rules.specs.declared.entry.Entry.TheVariants as entry
use Rattle.session_rules.specs.declared.service.Service.{Service}
use Rattle.document_session.specs.keeping_rules_below.Items.{SessionItem}
use Rattle.document_session.specs.Contents.{SessionState}
use Rattle.message_input.specs.Answers.{HaltsAmong}
use Rattle.message_input.specs.Counts.{CountsSo}
use Rattle.message_input.specs.declared.answering.Halt.{Halt}
use Rattle.message_input.specs.declared.answering.Halt.TheVariants as halt
use Rattle.document_serve.specs.Going.{IsAtRest}
use Rattle.document_serve.specs.Runs.{GoesOn, StopsSo, WrittenSo}
use Rattle.editor_laws.specs.Heard.{AreMessages}
use Rattle.mirror_serve.specs.Halts.{HaltsSo}
use Rattle.mirror_serve.specs.Joins.{short_halts}
use Rattle.mirror_serve.specs.LongReplies.{HasShortReplies, too_long_in}
use Rattle.mirror_serve.specs.Resting.{IsImageOf, Rests}
use Rattle.mirror_serve.specs.declared.ear.Ear.{Ear}
use Rattle.mirror_serve.proofs.Halting.{stops_so}

-- where the session stops, all does
pub halts_counted : {S T : Type 0} (l : Lang S) (r : Result T Halt) (held now : Option (List ℕ)) (faults later : ℕ) (old new : SessionState)
    (messages : List (List (List ℕ)))
    → IfErr r (λ h. HaltsAmong (λ (o : SessionState) first x rest (n : SessionState). StopsSo l x held now o n first rest) old messages h new)
    → IfErr r (λ h. CountsSo h faults later)
    → IfErr r (λ h. HaltsAmong (λ (o : SessionState) first x rest (n : SessionState). HaltsSo l x held now faults later o n first rest) old messages h new)
halts_counted l (Ok done) held now faults later old new messages stops counts = tt
halts_counted l (Err h) held now faults later old new messages stops counts = stops_so l held now faults later old new messages h stops counts

-- memory is short before the message is answered
pub halts_before : {S : Type 0} (l : Lang S) (held : Option (List ℕ)) (faults : ℕ) (old new : SessionState) (message : List (List ℕ)) → IsAtRest l old → new ≡ old
    → HaltsAmong (λ (o : SessionState) first x rest (n : SessionState). HaltsSo l x held held faults faults o n first rest) old (message ∷ []) halt.NoMemory new
halts_before l held faults old new message rests same = record {
  first = [];
  rest = message ∷ [];
  parts = refl;
  halts = subst (λ (n : SessionState). HaltsSo l halt.NoMemory held held faults faults old n [] (message ∷ [])) (sym same)
      (short_halts l held faults old (message ∷ []) rests);
}

-- where all is written the session rests, with the mirror
module _ {S : Type 0} (l : Lang S) (held now : Option (List ℕ)) (old mid new : SessionState) (ear : Ear) (r : Rests l old ear)
    (message : List (List ℕ)) (whole : IsMessage message) (service : new.service ≡ old.service) (same : mid.service ≡ old.service)
    (is : mid.items ≡ Made (entry.Call message) ∷ old.items)
    (image : IsImageOf l mid.service [] (entries mid.items) [] ear.mirror) (short : HasShortReplies l mid) where
  called : entries mid.items ≡ entry.Call message ∷ entries old.items
  called = ap (λ (is : List SessionItem). entries is) is

  pub rests_written : (w : Result (Unit {0}) Halt) → WrittenSo l held now mid new w → OnOk w (GoesOn l held now old new (message ∷ [])) → OnOk w (Rests l new ear)
  rests_written (Err h) written goes = tt
  rests_written (Ok done) written goes =
      let at_new : (P : Service → List Entry → Type 0) → P mid.service (entries mid.items) → P new.service (entries new.items) =
      λ P p. subst (λ v. P v (entries new.items)) (sym (service ∙ sym same)) (subst (P mid.service) (sym written.0.entries_are) p) in
      record {
        session = goes.rests;
        service = service ∙ r.service;
        tellable = r.tellable;
        calls = at_new (λ v es. AreMessages es) (subst AreMessages (sym called) (whole, r.calls));
        image = at_new (λ v es. IsImageOf l v [] es [] ear.mirror) image;
        fine = r.fine;
        short = at_new (λ v es. too_long_in l v es ≡ []) short;
      }
