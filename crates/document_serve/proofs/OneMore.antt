-- A part more that is worked on while a message waits.
use Rattle.std.proofs.Common.{◌≡◌, ℕ, suc, false, List, [], ◌∷◌, Option, refl, sym, ap, subst, ◌∙◌, append-nil}
use Rattle.std.specs.Io.KnownBytes.{Appends}
use Rattle.pide_base.specs.declared.part.Part.{Part}
use Rattle.language.specs.Lang.{Lang}
use Rattle.core_rules.specs.declared.event.Event.TheVariants as event
use Rattle.reply_outbox.specs.declared.item.Item.TheVariants.{Made}
use Rattle.reply_outbox.specs.Items.{entries, is_lost}
use Rattle.session_rules.specs.declared.entry.Entry.{Entry}
use Rattle.session_rules.specs.declared.entry.Entry.TheVariants as entry
use Rattle.session_rules.specs.declared.service.Service.{Service}
use Rattle.session_rules.specs.Heard.{all_heard}
use Rattle.session_rules.specs.History.{session}
use Rattle.session_rules.specs.Alone.{IsAlone}
use Rattle.document_session.specs.keeping_rules_below.Items.{SessionItem, heard_in, session_in}
use Rattle.document_session.specs.keeping_rules_below.Legal.{AreLegal}
use Rattle.document_session.specs.Answers.{IsWaiting}
use Rattle.document_session.specs.Contents.{SessionState}
use Rattle.document_serve.specs.Served.{AllSent, IsLostLast, WritesFront, WritesOn, WritesSome, calls, calls_in, sent_in}
use Rattle.document_serve.specs.Going.{IsGoing, awaited_by}
use Rattle.document_serve.specs.Runs.{Fails, IsSame}
use Rattle.session_rules.proofs.KnownNamed.{AskedLaw}
use Rattle.session_rules.proofs.KnownResting.{work_next}
use Rattle.document_serve.specs.Laws.{WorkLaws}
use Rattle.document_serve.proofs.Waiting.{was_first, worked_calls, worked_going, worked_sent}
use Rattle.document_serve.proofs.Stepping.{going_same, same_in}
use Rattle.document_serve.proofs.At.{IsAt, events_of}

module _ {S : Type 0} (l : Lang S) (laws : WorkLaws l) (law : AskedLaw)
    (held now : Option (List ℕ)) (old s : SessionState) (came message : List (List ℕ)) (a : IsAt l held now old s came message) where
  module _ (mid new : SessionState) (then : Option (List ℕ)) (service : mid.service ≡ s.service) (written : IsSame l mid new) where
    same_service : new.service ≡ old.service
    same_service = written.service ∙ service ∙ a.service

    same_calls : calls_in new.items ≡ calls_in mid.items
    same_calls = ap calls written.entries_are

    module _ (w : IsWaiting l s.service s.items message) (part : Part)
        (is : mid.items ≡ Made (entry.Finished 0 part) ∷ Made (entry.Claimed 0 part) ∷ s.items) (legal : AreLegal l mid.service mid.items) where
      mid_sent : sent_in l mid.service mid.items ≡ sent_in l s.service s.items
      mid_sent = worked_sent l laws law s message a.going w mid part service is legal

      mid_worked : IsGoing l (awaited_by l mid.service (heard_in mid.service mid.items) message) mid
      mid_worked = worked_going l laws law s message a.going w mid part service is legal

      calls_kept : calls_in new.items ≡ calls_in old.items
      calls_kept = same_calls ∙ worked_calls l laws law s message a.going w mid part service is legal ∙ a.called

      new_events : events_of l new ≡ events_of l mid
      new_events = same_in l (λ v es. (session l v (all_heard v es)).events ≡ events_of l mid) mid new written refl

      mid_events : events_of l mid ≡ event.Finished 0 part ∷ event.Claimed 0 part ∷ events_of l s
      mid_events = ap (λ (v : Service). (session_in l v mid.items).events) service ∙ ap (λ (xs : List SessionItem). (session_in l s.service xs).events) is

      pub next_events : events_of l new ≡ event.Finished 0 part ∷ event.Claimed 0 part ∷ events_of l s
      next_events = new_events ∙ mid_events

      -- a part more is worked on, and its report is written
      pub at_next : is_lost new.items ≡ false → AllSent l new.service new.items → WritesOn l now then mid new → IsAt l held then old new came message
      at_next kept sent on = record {
        same = a.same;
        service = same_service;
        called = calls_kept;
        grown = record {
          worked = entry.Finished 0 part ∷ entry.Claimed 0 part ∷ a.grown.worked;
          is = written.entries_are ∙ ap (λ (xs : List SessionItem). entries xs) is
              ∙ ap (λ (es : List Entry). entry.Finished 0 part ∷ entry.Claimed 0 part ∷ es) a.grown.is;
          none_called = a.grown.none_called;
        };
        going = going_same l (λ v h. awaited_by l v h message) mid new written kept mid_worked;
        sent = sent;
        writes = λ first first_held. on first (subst (Appends first now) (sym mid_sent) (a.writes first first_held));
        steps = suc a.steps;
        works = work_next l (events_of l old) a.steps (events_of l s) (events_of l new) part a.works
            (was_first l laws law s message a.going w mid part service is legal) next_events;
      }

      -- it is, but the sink fails
      pub work_fails : WritesFront l now then mid new → WritesSome l now then mid new → IsLostLast new → Fails l held then old new [] (came ∷ [])
      work_fails front some lost = record {
        service = same_service;
        legal = written.legal;
        called = calls_kept ∙ sym (append-nil (calls_in old.items));
        alone = same_in l (λ v es. IsAlone l v (awaited_by l v (all_heard v es) came) (all_heard v es)) mid new written
            (subst (λ (m : List (List ℕ)). IsAlone l mid.service (awaited_by l mid.service (heard_in mid.service mid.items) m) (heard_in mid.service mid.items))
            a.same mid_worked.alone);
        writes = λ first first_held. front first (subst (Appends first now) (sym mid_sent) (a.writes first first_held));
        sends = λ first first_held. some first (subst (Appends first now) (sym mid_sent) (a.writes first first_held));
        lost = lost;
      }
