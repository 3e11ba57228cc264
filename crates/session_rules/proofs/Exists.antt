-- For all messages there is a run of one thread.
use Rattle.std.proofs.Common.{◌≡◌, ℕ, List, [], ◌∷◌, Option, None, Some, refl, sym, subst, ◌∙◌, arith}
use Rattle.exec_rules.specs.declared.version.Version.{Version}
use Rattle.language.specs.Lang.{Lang}
use Rattle.message_values.specs.Asked.{asked}
use Rattle.session_rules.specs.declared.entry.Entry.{Entry}
use Rattle.session_rules.specs.declared.entry.Entry.TheVariants as entry
use Rattle.session_rules.specs.declared.service.Service.{Service}
use Rattle.session_rules.specs.Services.{free_workers, mode_of}
use Rattle.session_rules.specs.Heard.{all_heard}
use Rattle.session_rules.specs.History.{session}
use Rattle.session_rules.specs.Legal.{IsSettledIn, awaited}
use Rattle.session_rules.specs.Alone.{IsAlone}
use Rattle.session_rules.specs.Steps.{due}
use Rattle.session_rules.specs.Runs.{IsWholeRun, called}
use Rattle.session_rules.proofs.KnownNamed.{AskedLaw}
use Rattle.session_rules.proofs.KnownResting.{made, work_first}
use Rattle.session_rules.proofs.KnownStays.{may_wait}
use Rattle.session_rules.proofs.Stepped.{IsAsked, RestOf, with_step}
use Rattle.session_rules.proofs.Working.{CoreLaws, Ready, Waits, work_on}

module _ {S : Type 0} (l : Lang S) (laws : CoreLaws l) (law : AskedLaw) (service : Service) (none : free_workers service ≡ 0) where
  abbrev waits_for : List (List ℕ) → List Entry → Option Version
  waits_for m es = awaited l service (all_heard service es) (asked (mode_of service) m)

  -- one message more
  module _ (m : List (List ℕ)) (messages : List (List (List ℕ))) (before : RestOf l service messages) where
    one_more : (es : List Entry) → IsAsked l service m es → called es ≡ messages → RestOf l service (m ∷ messages)
    one_more es is calls = subst (λ (ms : List (List (List ℕ))). RestOf l service (m ∷ ms)) calls
        (with_step l service law laws.given m es is (due l service (all_heard service (entry.Call m ∷ es))) refl)

    next : (o : Option Version) → waits_for m before.es ≡ o → RestOf l service (m ∷ messages)
    next None e =
        let r = before.rests in
        one_more before.es (record {
          legal = (r.legal, (r.going, r.rest, subst (IsSettledIn l (session l service (all_heard service before.es))) (sym e) tt));
          alone = subst (λ (o : Option Version). IsAlone l service o (all_heard service before.es)) (sym e) r.alone;
          going = r.going;
        }) before.calls_are
    next (Some version) e =
        let r = before.rests in
        let waits : Waits l laws law service none m version before.es = record {
          legal = r.legal;
          alone = may_wait l service (Some version) (all_heard service before.es) r.alone;
          rest = r.rest;
          going = r.going;
          waits_for = e;
        } in
        let past = (session l service (all_heard service before.es)).events in
        let ready : Ready l laws law service none m version before.es = work_on l laws law service none m version before.es (made l past) 0 before.es waits
        (work_first l past) (omega arith) refl in
        let w = ready.waits in
        one_more ready.es (record {
          legal = (w.legal, (w.going, w.rest, subst (IsSettledIn l (session l service (all_heard service ready.es))) (sym w.waits_for) ready.settled));
          alone = subst (λ (o : Option Version). IsAlone l service o (all_heard service ready.es)) (sym w.waits_for) w.alone;
          going = w.going;
        }) (ready.calls_are ∙ before.calls_are)

  rest_of : (messages : List (List (List ℕ))) → RestOf l service messages
  rest_of [] = record { es = []; rests = record { legal = tt; alone = tt; rest = refl; going = refl }; calls_are = refl }
  rest_of (m ∷ messages) =
      let before = rest_of messages in next m messages before (waits_for m before.es) refl

  -- it ends
  pub some_run : (messages : List (List (List ℕ))) → (h : List Entry) × IsWholeRun l service h × (called h ≡ messages)
  some_run messages =
      let r = rest_of messages in
      let is = r.rests in (
        entry.Ended ∷ r.es,
        record { before = r.es; ended = refl; legal = (is.legal, (is.going, is.rest)); alone = is.alone },
        r.calls_are,
      )
