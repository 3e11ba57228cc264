-- One thread has one way.
use Rattle.std.proofs.Common.{◌≡◌, ℕ, zero, suc, ◌≤◌, true, false, List, [], ◌∷◌, length, Option, None, Some, Result, inl, inr, refl, sym, ap, subst, ◌∙◌, arith}
use Rattle.std.specs.Prelude.{if◌then◌else◌}
use Rattle.pide_base.specs.declared.part.Part.{Part}
use Rattle.exec_rules.specs.declared.version.Version.{Version}
use Rattle.language.specs.Lang.{Lang}
use Rattle.message_values.specs.declared.editor_message.EditorMessage.{EditorMessage}
use Rattle.message_values.specs.declared.refusal.Refusal.{Refusal}
use Rattle.message_values.specs.Asked.{asked}
use Rattle.core_rules.specs.declared.event.Event.{Event}
use Rattle.core_rules.specs.Alone.{alone}
use Rattle.core_rules.specs.Ready.{IsFirst, first_ready, is_wanted}
use Rattle.core_rules.specs.Standing.{held}
use Rattle.session_rules.specs.declared.entry.Entry.{Entry}
use Rattle.session_rules.specs.declared.entry.Entry.TheVariants as entry
use Rattle.session_rules.specs.declared.service.Service.{Service}
use Rattle.session_rules.specs.Services.{free_workers, mode_of}
use Rattle.session_rules.specs.Session.{document}
use Rattle.session_rules.specs.Heard.{Heard, Message, Claimed, Finished, Dropped, all_heard}
use Rattle.session_rules.specs.History.{session}
use Rattle.session_rules.specs.Legal.{IsLegal, IsSettledIn, IsTurn, awaited}
use Rattle.session_rules.specs.Alone.{IsAlone}
use Rattle.session_rules.specs.Steps.{Due, Nothing, Claims, Finishes, due}
use Rattle.session_rules.specs.OneThread.{claimed_by, ended_by, reads, stepped, thread, with_message, worked_for, worked_until}
use Rattle.session_rules.proofs.KnownNamed.{AskedLaw}
use Rattle.session_rules.proofs.KnownResting.{made}
use Rattle.session_rules.proofs.Stripped.{IsRest, Stripped, strip}
use Rattle.session_rules.proofs.Until.{awaited_until, until_is, until_stays, within}

module _ {S : Type 0} (l : Lang S) (service : Service) (law : AskedLaw) (none : free_workers service ≡ 0)
    (firsts : (h : List Event) (p : Part) → IsFirst l h p → first_ready l h ≡ Some p)
    (rests : (h : List Event) → first_ready l (alone l 0 (made l h) h) ≡ None) where
  abbrev past : List Heard → List Event
  past h = (session l service h).events

  abbrev same : List Entry → Type 0
  same es = all_heard service es ≡ thread l service (reads (all_heard service es))

  abbrev read : List (List ℕ) → Result EditorMessage Refusal
  read m = asked (mode_of service) m

  -- a message behind what was worked on for it
  module _ (es : List Entry) (m : List (List ℕ)) (legal : IsLegal l service (all_heard service (entry.Call m ∷ es)))
      (a : IsAlone l service (awaited l service (all_heard service es) (read m)) (all_heard service es)) where
    with_is : (o : Option Version) → awaited l service (all_heard service es) (read m) ≡ o
        → ((from : List Entry) → length from ≤ length es → IsRest l service from → same from)
        → all_heard service (entry.Call m ∷ es) ≡ with_message l service (read m) (thread l service (reads (all_heard service es)))
    with_is None waits known =
        let before = known es (omega arith) (record {
          legal = legal.0;
          alone = subst (λ (o : Option Version). IsAlone l service o (all_heard service es)) waits a;
          rest = legal.1.1;
          going = legal.1.0;
        }) in
        sym (ap (λ (o : Option Version). Message (read m) ∷ worked_for l service o (all_heard service es)) waits)
        ∙ ap (with_message l service (read m)) before
    with_is (Some version) waits known =
        let r : Stripped l service law none version es = strip l service law none version es legal.0
        (subst (λ (o : Option Version). IsAlone l service o (all_heard service es)) waits a) legal.1.1 legal.1.0 in
        let from = all_heard service r.from in
        let before = known r.from r.short r.rests in
        let thread_is : thread l service (reads (all_heard service es)) ≡ from = ap (thread l service) (sym r.reads_are) ∙ sym before in
        let waited : awaited l service from (read m) ≡ Some version =
        sym (awaited_until l service version r.steps from (all_heard service es) r.is (read m)) ∙ waits in
        let worked : worked_until l service version r.steps from ≡ all_heard service es =
        until_is l service version firsts r.steps from (all_heard service es) r.is legal.0 in
        let done : IsSettledIn l (session l service (all_heard service es)) (Some version) =
        subst (IsSettledIn l (session l service (all_heard service es))) waits legal.1.2 in
        let stays = until_stays l service version r.steps (made l (past from)) from
        (within l service version firsts rests r.steps from (all_heard service es) r.is legal.0)
        (subst (λ (h : List Heard). IsSettledIn l (session l service h) (Some version)) (sym worked) done) in
        sym (ap (with_message l service (read m)) thread_is ∙ ap (λ (o : Option Version). Message (read m) ∷ worked_for l service o from) waited
        ∙ ap (λ (h : List Heard). Message (read m) ∷ h) (stays ∙ worked))

  -- an entry that the newest message calls for, behind it
  module _ (es : List Entry) (m : List (List ℕ))
      (known : all_heard service (entry.Call m ∷ es) ≡ with_message l service (read m) (thread l service (reads (all_heard service es)))) where
    abbrev now : List Heard
    now = all_heard service (entry.Call m ∷ es)

    thread_by : (d : Due) → due l service now ≡ d → thread l service (reads now) ≡ stepped l service d now
    thread_by d is = sym (ap (λ (h : List Heard). stepped l service (due l service h) h) known) ∙ ap (λ (x : Due). stepped l service x now) is

    claims : (w : ℕ) (p : Part) → due l service now ≡ Claims w → IsFirst l (past now) p → Claimed w p ∷ now ≡ thread l service (reads now)
    claims w p is first = sym (thread_by (Claims w) is ∙ ap (claimed_by w now) (firsts (past now) p first))

    ends_by : (w : ℕ) (p : Part) → due l service now ≡ Finishes w → held (past now) w ≡ Some p
        → thread l service (reads now) ≡ (if is_wanted (document l (session l service now)) p.exec then Finished w p else Dropped w p) ∷ now
    ends_by w p is holds = thread_by (Finishes w) is ∙ ap (ended_by l (session l service now) w now) holds

    finishes : (w : ℕ) (p : Part) → due l service now ≡ Finishes w → held (past now) w ≡ Some p
        → is_wanted (document l (session l service now)) p.exec ≡ true → Finished w p ∷ now ≡ thread l service (reads now)
    finishes w p is holds wanted = sym (ends_by w p is holds ∙ ap (λ b. (if b then Finished w p else Dropped w p) ∷ now) wanted)

    drops : (w : ℕ) (p : Part) → due l service now ≡ Finishes w → held (past now) w ≡ Some p
        → is_wanted (document l (session l service now)) p.exec ≡ false → Dropped w p ∷ now ≡ thread l service (reads now)
    drops w p is holds wanted = sym (ends_by w p is holds ∙ ap (λ b. (if b then Finished w p else Dropped w p) ∷ now) wanted)

  called : (es : List Entry) (w : ℕ) (d : Due) → IsTurn service (due l service (all_heard service es)) (suc w) d
      → due l service (all_heard service es) ≡ d
  called es w d (inl is) = is
  called es w d (inr other) = let within = other.1 in absurd (omega (arith, within, none))

  -- what is known of shorter histories
  abbrev Known : List Entry → Type 0
  Known es = (from : List Entry) → suc (length from) ≤ length es → IsRest l service from → same from

  known_with : (es : List Entry) (m : List (List ℕ)) → IsLegal l service (all_heard service (entry.Call m ∷ es))
      → IsAlone l service (awaited l service (all_heard service es) (read m)) (all_heard service es)
      → Known (entry.Call m ∷ es) → all_heard service (entry.Call m ∷ es) ≡ with_message l service (read m) (thread l service (reads (all_heard service es)))
  known_with es m legal a known = with_is es m legal a (awaited l service (all_heard service es) (read m)) refl
      (λ from short rest. known from (omega (arith, short)) rest)

  by_claim : (w : ℕ) (p : Part) (es : List Entry) → IsLegal l service (all_heard service (entry.Claimed (suc w) p ∷ es))
      → IsAlone l service None (all_heard service es) → due l service (all_heard service es) ≡ Claims (suc w) → Known es → same (entry.Claimed (suc w) p ∷ es)
  by_claim w p (entry.Call m ∷ es) legal a is known = claims es m (known_with es m legal.0 a known) (suc w) p is legal.1.0.2
  by_claim w p es legal a is known = absurd (cc)

  by_finish : (w : ℕ) (p : Part) (es : List Entry) → IsLegal l service (all_heard service (entry.Finished (suc w) p ∷ es))
      → IsAlone l service None (all_heard service es) → due l service (all_heard service es) ≡ Finishes (suc w) → Known es → same (entry.Finished (suc w) p ∷ es)
  by_finish w p (entry.Call m ∷ es) legal a is known = finishes es m (known_with es m legal.0 a known) (suc w) p is legal.1.0.0 legal.1.0.1
  by_finish w p es legal a is known = absurd (cc)

  by_drop : (w : ℕ) (p : Part) (es : List Entry) → IsLegal l service (all_heard service (entry.Dropped (suc w) p ∷ es))
      → IsAlone l service None (all_heard service es) → due l service (all_heard service es) ≡ Finishes (suc w) → Known es → same (entry.Dropped (suc w) p ∷ es)
  by_drop w p (entry.Call m ∷ es) legal a is known = drops es m (known_with es m legal.0 a known) (suc w) p is legal.1.0.0 legal.1.0.1
  by_drop w p es legal a is known = absurd (cc)

  -- by the number of entries at most
  pub all_same : (k : ℕ) (es : List Entry) → length es ≤ k → IsRest l service es → same es
  all_same k [] le r = refl
  all_same zero (e ∷ es) le r = absurd (omega (arith, le))
  all_same (suc k) (entry.Call m ∷ es) le r =
      let known = known_with es m r.legal r.alone (λ from short rest. all_same k from (omega (arith, le, short)) rest) in
      sym (thread_by es m known Nothing r.rest)
  all_same (suc k) (entry.Claimed (suc w) p ∷ es) le r = by_claim w p es r.legal r.alone (called es w (Claims (suc w)) r.legal.1.1)
      (λ from short rest. all_same k from (omega (arith, le, short)) rest)
  all_same (suc k) (entry.Finished (suc w) p ∷ es) le r = by_finish w p es r.legal r.alone (called es w (Finishes (suc w)) r.legal.1.1)
      (λ from short rest. all_same k from (omega (arith, le, short)) rest)
  all_same (suc k) (entry.Dropped (suc w) p ∷ es) le r = by_drop w p es r.legal r.alone (called es w (Finishes (suc w)) r.legal.1.1)
      (λ from short rest. all_same k from (omega (arith, le, short)) rest)
  all_same (suc k) (entry.Ended ∷ es) le r = let going = r.going in absurd (cc)
  all_same (suc k) (e ∷ es) le r = let a = r.alone in absurd (a)
