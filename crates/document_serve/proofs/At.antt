-- A message that waits while parts are worked on.
use Rattle.std.proofs.Common.{◌≡◌, ℕ, List, [], Option, refl, sym, subst, ap, ◌∙◌}
use Rattle.language.specs.Lang.{Lang}
use Rattle.core_rules.specs.declared.event.Event.{Event}
use Rattle.session_rules.specs.declared.service.Service.{Service}
use Rattle.document_session.specs.keeping_rules_below.Items.{SessionItem, heard_in, session_in}
use Rattle.document_session.specs.Answers.{IsWaiting, TakenSo}
use Rattle.document_session.specs.Contents.{SessionState}
use Rattle.reply_outbox.specs.Items.{entries}
use Rattle.document_serve.specs.Served.{AllSent, IsWorkedOn, WritesOn, calls_in}
use Rattle.document_serve.specs.Going.{IsAtRest, IsGoing, awaited_by}
use Rattle.session_rules.proofs.KnownResting.{IsWorkOn, work_first}
use Rattle.session_rules.proofs.KnownStays.{may_wait}
use Rattle.document_session.specs.declared.taking.Taken.TheVariants as taken

-- the events of a session
abbrev pub events_of : {S : Type 0} → Lang S → SessionState → List Event
events_of l s = (session_in l s.service s.items).events

-- the message is the one that came; parts may have been worked on for it, and no message was answered
pub record IsAt {S : Type 0} (l : Lang S) (held held' : Option (List ℕ)) (old s : SessionState) (came message : List (List ℕ)) : Type 0 where
  pub same : message ≡ came
  pub service : s.service ≡ old.service
  pub called : calls_in s.items ≡ calls_in old.items
  pub grown : IsWorkedOn (entries old.items) (entries s.items)
  pub going : IsGoing l (awaited_by l s.service (heard_in s.service s.items) message) s
  pub sent : AllSent l s.service s.items
  pub writes : WritesOn l held held' old s
  pub steps : ℕ
  pub works : IsWorkOn l (events_of l old) (events_of l s) steps

-- its list and how it is served tell them
pub same_events : {S : Type 0} (l : Lang S) (s s' : SessionState) → s'.service ≡ s.service → s'.items ≡ s.items → events_of l s' ≡ events_of l s
same_events l s s' service items = ap (λ (v : Service). (session_in l v s'.items).events) service
    ∙ ap (λ (is : List SessionItem). (session_in l s.service is).events) items

module _ {S : Type 0} (l : Lang S) where
  -- at the beginning
  pub at_first : (held : Option (List ℕ)) (old : SessionState) (came : List (List ℕ)) → IsAtRest l old → IsAt l held held old old came came
  at_first held old came rest =
      let g = rest.going in
      record {
        same = refl;
        service = refl;
        called = refl;
        grown = record { worked = []; is = refl; none_called = refl };
        going = record {
          legal = g.legal;
          nobody = g.nobody;
          going = g.going;
          alone = may_wait l old.service (awaited_by l old.service (heard_in old.service old.items) came) (heard_in old.service old.items) g.alone;
          kept = g.kept;
        };
        sent = rest.sent;
        writes = λ first w. w;
        steps = 0;
        works = work_first l (events_of l old);
      }

  -- what its list is and how it is served tells all of it
  pub at_kept : (held held' : Option (List ℕ)) (old s s' : SessionState) (came message : List (List ℕ)) → s'.service ≡ s.service → s'.items ≡ s.items
      → IsAt l held held' old s came message → IsAt l held held' old s' came message
  at_kept held held' old s s' came message service items a =
      let P : Service → List SessionItem → Type 0 = λ v is. IsAt l held held' old (record { service = v; items = is; waiting = s'.waiting }) came message in
      let g = a.going in
      let here : P s.service s.items = record {
        same = a.same;
        service = a.service;
        called = a.called;
        grown = a.grown;
        going = record { legal = g.legal; nobody = g.nobody; going = g.going; alone = g.alone; kept = g.kept };
        sent = a.sent;
        writes = a.writes;
        steps = a.steps;
        works = a.works;
      } in
      subst (λ (v : Service). P v s'.items) (sym service) (subst (P s.service) (sym items) here)

  -- the message is handed back
  pub at_waits : (held held' : Option (List ℕ)) (old s s' : SessionState) (came message back : List (List ℕ)) → IsAt l held held' old s came message
      → s'.service ≡ s.service → TakenSo l s.service message s.items (taken.Waits back) s'.items
      → IsAt l held held' old s' came back × IsWaiting l s'.service s'.items back
  at_waits held held' old s s' came message back a service so =
      let here = at_kept held held' old s s' came message service so.1 a in
      let waits : IsWaiting l s'.service s'.items message =
      subst (λ (v : Service). IsWaiting l v s'.items message) (sym service)
      (subst (λ (is : List SessionItem). IsWaiting l s.service is message) (sym so.1) so.2) in
      subst (λ (m : List (List ℕ)). IsAt l held held' old s' came m × IsWaiting l s'.service s'.items m) (sym so.0) (here, waits)
