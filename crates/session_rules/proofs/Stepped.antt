-- The entry that a message calls for may stand.
use Rattle.std.proofs.Common.{◌≡◌, ℕ, zero, suc, ◌≤◌, Bool, true, false, List, ◌∷◌, Option, None, Some, Result, Ok, Err, inl, refl, sym, ap, subst, ◌∙◌, arith}
use Rattle.std.specs.Prelude.{◌||◌, if◌then◌else◌, is_some}
use Rattle.std.specs.Option.{is_none}
use Rattle.pide_base.specs.declared.part.Part.{Part}
use Rattle.language.specs.Lang.{Lang}
use Rattle.message_values.specs.declared.editor_message.EditorMessage.{EditorMessage}
use Rattle.message_values.specs.declared.editor_message.EditorMessage.TheVariants as asks
use Rattle.message_values.specs.declared.refusal.Refusal.{Refusal}
use Rattle.message_values.specs.declared.refusal.Refusal.TheVariants.{NothingToStep}
use Rattle.message_values.specs.Asked.{asked}
use Rattle.core_rules.specs.declared.event.Event.{Event}
use Rattle.core_rules.specs.Ready.{IsFirst, first_ready, is_wanted}
use Rattle.core_rules.specs.Standing.{has_ended, held}
use Rattle.session_rules.specs.declared.entry.Entry.{Entry}
use Rattle.session_rules.specs.declared.entry.Entry.TheVariants as entry
use Rattle.session_rules.specs.declared.service.Service.{Service}
use Rattle.session_rules.specs.Services.{mode_of}
use Rattle.session_rules.specs.Session.{Session, answered, document}
use Rattle.session_rules.specs.Heard.{Heard, Message, all_heard}
use Rattle.session_rules.specs.Accepting.{taken}
use Rattle.session_rules.specs.History.{session}
use Rattle.session_rules.specs.Legal.{IsLegal}
use Rattle.session_rules.specs.Alone.{IsAlone}
use Rattle.session_rules.specs.Steps.{Due, Nothing, Claims, Finishes, due, due_by, due_of}
use Rattle.session_rules.specs.Runs.{called}
use Rattle.session_rules.proofs.KnownHolding.{message_goes, message_same}
use Rattle.session_rules.proofs.KnownNamed.{AskedLaw, claims_asked, finishes_asked}
use Rattle.session_rules.proofs.Stripped.{IsRest}

-- a claim that isn't refused
claim_by : (s : Session) (w : ℕ) (o q : Option Part) → due_by (if is_some o || is_none q then Err NothingToStep else Ok s) (Claims w) ≡ Claims w
    → (part : Part) × (o ≡ None) × (q ≡ Some part)
claim_by s w (Some p) q e = absurd (cc)
claim_by s w None None e = absurd (cc)
claim_by s w None (Some p) e = (p, refl, refl)

finish_by : (s : Session) (w : ℕ) (o : Option Part) → due_by (if is_some o then Ok s else Err NothingToStep) (Finishes w) ≡ Finishes w
    → (part : Part) × (o ≡ Some part)
finish_by s w (Some p) e = (p, refl)
finish_by s w None e = absurd (cc)

-- a message behind a history
pub record IsAsked {S : Type 0} (l : Lang S) (service : Service) (m : List (List ℕ)) (es : List Entry) : Type 0 where
  pub legal : IsLegal l service (all_heard service (entry.Call m ∷ es))
  pub alone : IsAlone l service None (all_heard service (entry.Call m ∷ es))
  pub going : has_ended (session l service (all_heard service es)).events ≡ false

-- a history at rest with these messages
pub record RestOf {S : Type 0} (l : Lang S) (service : Service) (messages : List (List (List ℕ))) : Type 0 where
  pub es : List Entry
  pub rests : IsRest l service es
  pub calls_are : called es ≡ messages

module _ {S : Type 0} (l : Lang S) (service : Service) (law : AskedLaw) (given : (h : List Event) (p : Part) → first_ready l h ≡ Some p → IsFirst l h p)
    (m : List (List ℕ)) (es : List Entry) (is : IsAsked l service m es) where
  abbrev past : List Heard
  past = all_heard service es

  abbrev s : Session
  s = session l service past

  abbrev read : Result EditorMessage Refusal
  read = asked (mode_of service) m

  abbrev now : List Heard
  now = Message read ∷ past

  abbrev events : List Event
  events = (session l service now).events

  goes : has_ended events ≡ false
  goes = message_goes l service s read ∙ is.going

  -- what is legal and made by one thread behind it, and calls for nothing
  behind : (e : Entry) → IsLegal l service (all_heard service (e ∷ entry.Call m ∷ es)) → IsAlone l service None (all_heard service (e ∷ entry.Call m ∷ es))
      → due l service (all_heard service (e ∷ entry.Call m ∷ es)) ≡ Nothing → has_ended (session l service (all_heard service (e ∷ entry.Call m ∷ es))).events ≡ false
      → called (e ∷ entry.Call m ∷ es) ≡ m ∷ called es → RestOf l service (m ∷ called es)
  behind e legal a d g calls = record { es = e ∷ entry.Call m ∷ es; rests = record { legal = legal; alone = a; rest = d; going = g }; calls_are = calls }

  module _ (w : ℕ) (turn : due l service now ≡ Claims (suc w)) where
    asks_it : read ≡ Ok (asks.Claim (suc w))
    asks_it = claims_asked l service s read (suc w) turn

    by : (part : Part) × (held s.events (suc w) ≡ None) × (first_ready l s.events ≡ Some part)
    by = claim_by s (suc w) (held s.events (suc w)) (first_ready l s.events) (ap (λ (r : Result EditorMessage Refusal). due_of l service s r) (sym asks_it) ∙ turn)

    accepted : (o q : Option Part) → (part : Part) → o ≡ None → q ≡ Some part
        → (if is_some o || is_none q then Err NothingToStep else Ok s) ≡ Ok s
    accepted o q part none some = ap (λ (x : Option Part). if is_some x || is_none q then Err NothingToStep else Ok s) none
        ∙ ap (λ (x : Option Part). if is_none x then Err NothingToStep else Ok s) some

    same_events : events ≡ s.events
    same_events = ap (λ (r : Result EditorMessage Refusal). (answered s (taken l service s r)).events) asks_it
        ∙ ap (λ (r : Result Session Refusal). (answered s r).events)
        (accepted (held s.events (suc w)) (first_ready l s.events) by.0 by.1 by.2)

    pub claims : RestOf l service (m ∷ called es)
    claims =
        let may = subst (λ (h : List Event). (held h (suc w) ≡ None) × IsFirst l h by.0) (sym same_events) (by.1, given s.events by.0 by.2) in
        behind (entry.Claimed (suc w) by.0) (is.legal, ((goes, may.0, may.1), inl turn)) is.alone refl goes refl

  module _ (w : ℕ) (turn : due l service now ≡ Finishes (suc w)) where
    asks_end : read ≡ Ok (asks.Finish (suc w))
    asks_end = finishes_asked l service s read (suc w) turn

    holds_by : (part : Part) × (held s.events (suc w) ≡ Some part)
    holds_by = finish_by s (suc w) (held s.events (suc w)) (ap (λ (r : Result EditorMessage Refusal). due_of l service s r) (sym asks_end) ∙ turn)

    same_held : held events (suc w) ≡ Some holds_by.0
    same_held = message_same l service s (suc w) read ∙ holds_by.1

    pub ends : RestOf l service (m ∷ called es)
    ends = go (is_wanted (document l (session l service now)) holds_by.0.exec) refl
      where
        go : (b : Bool) → is_wanted (document l (session l service now)) holds_by.0.exec ≡ b → RestOf l service (m ∷ called es)
        go true e = behind (entry.Finished (suc w) holds_by.0) (is.legal, ((same_held, e), inl turn)) is.alone refl goes refl
        go false e = behind (entry.Dropped (suc w) holds_by.0) (is.legal, ((same_held, e), inl turn)) is.alone refl goes refl

  -- what is due is done
  pub with_step : (d : Due) → due l service now ≡ d → RestOf l service (m ∷ called es)
  with_step Nothing d = record { es = entry.Call m ∷ es; rests = record { legal = is.legal; alone = is.alone; rest = d; going = goes }; calls_are = refl }
  with_step (Claims (suc w)) d = claims w d
  with_step (Finishes (suc w)) d = ends w d
  with_step (Claims zero) d =
      let named = (law (mode_of service) m (asks.Claim 0)).0 (claims_asked l service s read 0 d) in
      let one : 1 ≤ 0 = named.0.0 in absurd (omega (arith, one))
  with_step (Finishes zero) d =
      let named = (law (mode_of service) m (asks.Finish 0)).0 (finishes_asked l service s read 0 d) in
      let one : 1 ≤ 0 = named.0.0 in absurd (omega (arith, one))
