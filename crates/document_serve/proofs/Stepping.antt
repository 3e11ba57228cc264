-- How the session stands after a message is answered, and after a part is worked on.
use Rattle.std.proofs.Common.{◌≡◌, ◌≢◌, ℕ, zero, suc, ◌≤◌, true, false, List, [], ◌∷◌, ◌++◌, Option, None, Result, inl, inr, refl, sym, ap, subst, ◌∙◌, arith}
use Rattle.pide_base.specs.declared.part.Part.{Part}
use Rattle.exec_rules.specs.declared.version.Version.{Version}
use Rattle.language.specs.Lang.{Lang}
use Rattle.message_values.specs.declared.editor_message.EditorMessage.{EditorMessage}
use Rattle.message_values.specs.declared.editor_message.EditorMessage.TheVariants as asks
use Rattle.message_values.specs.declared.refusal.Refusal.{Refusal}
use Rattle.message_values.specs.Asked.{asked}
use Rattle.core_rules.specs.Standing.{has_ended}
use Rattle.reply_outbox.specs.declared.item.Item.TheVariants.{Made}
use Rattle.reply_outbox.specs.Items.{entries, is_lost}
use Rattle.session_rules.specs.declared.entry.Entry.{Entry}
use Rattle.session_rules.specs.declared.entry.Entry.TheVariants as entry
use Rattle.session_rules.specs.declared.service.Service.{Service}
use Rattle.session_rules.specs.Services.{free_workers, mode_of}
use Rattle.session_rules.specs.Heard.{Heard, Message, Claimed, Finished, all_heard, heard}
use Rattle.session_rules.specs.Session.{Session}
use Rattle.session_rules.specs.History.{session}
use Rattle.session_rules.specs.Legal.{IsTurn, awaited}
use Rattle.session_rules.specs.Alone.{IsAlone}
use Rattle.session_rules.specs.Steps.{Nothing, Claims, Finishes, due_of}
use Rattle.document_session.specs.keeping_rules_below.Items.{SessionItem, heard_in, session_in}
use Rattle.document_session.specs.keeping_rules_below.Legal.{AreLegal}
use Rattle.document_session.specs.keeping_rules_below.Sent.{IsFrontSent}
use Rattle.document_session.specs.Answers.{IsAnswered, is_step}
use Rattle.document_session.specs.Contents.{SessionState}
use Rattle.document_serve.specs.Listening.{replies_sent}
use Rattle.document_serve.specs.Served.{IsWorkedOn, calls, calls_in, sent_in}
use Rattle.document_serve.specs.Going.{IsGoing}
use Rattle.document_serve.specs.Runs.{IsSame}
use Rattle.session_rules.proofs.KnownNamed.{AskedLaw, claims_asked, finishes_asked}
use Rattle.session_rules.proofs.KnownHolding.{message_goes}
use Rattle.document_serve.proofs.KnownSent.{replies_made, sent_made}
use Rattle.document_serve.proofs.Worked.{legal_made}

-- nothing of a history has changed
pub same_in : {S : Type 0} (l : Lang S) (P : Service → List Entry → Type 0) (old new : SessionState) → IsSame l old new
    → P old.service (entries old.items) → P new.service (entries new.items)
same_in l P old new same p =
    subst (λ (v : Service). P v (entries new.items)) (sym same.service) (subst (P old.service) (sym same.entries_are) p)

-- so it goes on, for what it waited for
pub going_same : {S : Type 0} (l : Lang S) (waits : Service → List Heard → Option Version) (old new : SessionState) → IsSame l old new
    → is_lost new.items ≡ false → IsGoing l (waits old.service (heard_in old.service old.items)) old
    → IsGoing l (waits new.service (heard_in new.service new.items)) new
going_same l waits old new same kept g = record {
  legal = same.legal;
  nobody = ap (λ (v : Service). free_workers v) same.service ∙ g.nobody;
  going = same_in l (λ v es. has_ended (session l v (all_heard v es)).events ≡ false) old new same g.going;
  alone = same_in l (λ v es. IsAlone l v (waits v (all_heard v es)) (all_heard v es)) old new same g.alone;
  kept = kept;
}

module _ {S : Type 0} (l : Lang S) (service : Service) (items : List SessionItem) where
  abbrev past : List Heard
  past = heard_in service items

  abbrev now : Session
  now = session_in l service items

  -- it goes on after an entry of a worker's
  step_goes : (step : Entry) → is_step step ≡ true → (h : List Heard)
      → has_ended (session l service (heard service step ∷ h)).events ≡ has_ended (session l service h).events
  step_goes (entry.Call message) e h = absurd (cc)
  step_goes (entry.Claimed who part) e h = refl
  step_goes (entry.Finished who part) e h = refl
  step_goes (entry.Dropped who part) e h = refl
  step_goes entry.Ended e h = absurd (cc)

  module _ (law : AskedLaw) (message : List (List ℕ)) where
    abbrev read : Result EditorMessage Refusal
    read = asked (mode_of service) message

    abbrev told : List SessionItem
    told = Made (entry.Call message) ∷ items

    abbrev alone_before : Type 0
    alone_before = IsAlone l service (awaited l service past read) past

    -- a worker's step, that this message called for, is none of the reader's
    claim_alone : (who : ℕ) (part : Part) → IsTurn service (due_of l service now read) who (Claims who)
        → due_of l service now read ≢ Nothing → alone_before → IsAlone l service None (Claimed who part ∷ Message read ∷ past)
    claim_alone who part (inr other) called a = absurd (called other.0)
    claim_alone zero part (inl turn) called a =
        let named = (law (mode_of service) message (asks.Claim 0)).0 (claims_asked l service now read 0 turn) in
        let one : 1 ≤ 0 = named.0.0 in absurd (omega (arith, one))
    claim_alone (suc w) part (inl turn) called a = a

    finish_named : (who : ℕ) → IsTurn service (due_of l service now read) who (Finishes who) → due_of l service now read ≢ Nothing → 1 ≤ who
    finish_named who (inr other) called = absurd (called other.0)
    finish_named who (inl turn) called =
        ((law (mode_of service) message (asks.Finish who)).0 (finishes_asked l service now read who turn)).0.0

    finished_alone : (who : ℕ) (part : Part) → 1 ≤ who → alone_before → IsAlone l service None (Finished who part ∷ Message read ∷ past)
    finished_alone zero part one a = absurd (omega (arith, one))
    finished_alone (suc w) part one a = a

    dropped_alone : (who : ℕ) (part : Part) → 1 ≤ who → alone_before → IsAlone l service None (heard service (entry.Dropped who part) ∷ Message read ∷ past)
    dropped_alone zero part one a = absurd (omega (arith, one))
    dropped_alone (suc w) part one a = a

    step_alone : (step : Entry) → is_step step ≡ true → AreLegal l service (Made step ∷ told) → due_of l service now read ≢ Nothing → alone_before
        → IsAlone l service None (heard service step ∷ Message read ∷ past)
    step_alone (entry.Call other) e legal called a = absurd (cc)
    step_alone entry.Ended e legal called a = absurd (cc)
    step_alone (entry.Claimed who part) e legal called a =
        claim_alone who part (legal_made l service (entry.Claimed who part) told legal).1.1 called a
    step_alone (entry.Finished who part) e legal called a =
        finished_alone who part (finish_named who (legal_made l service (entry.Finished who part) told legal).1.1 called) a
    step_alone (entry.Dropped who part) e legal called a =
        dropped_alone who part (finish_named who (legal_made l service (entry.Dropped who part) told legal).1.1 called) a

    -- it goes on after a message that is answered
    pub record IsAfter (new : List SessionItem) : Type 0 where
      pub calls_are : calls_in new ≡ calls_in items ++ message ∷ []
      pub sent_is : sent_in l service new ≡ sent_in l service items
      pub told_is : replies_sent l service new ≡ replies_sent l service items
      pub done : IsWorkedOn (entry.Call message ∷ entries items) (entries new)
      pub kept : is_lost new ≡ is_lost items
      pub going : has_ended (session_in l service new).events ≡ has_ended now.events
      pub alone : IsAlone l service None (heard_in service new)

    pub answered : (new : List SessionItem) → AreLegal l service new → ((xs : List SessionItem) → AreLegal l service xs → IsFrontSent l service xs)
        → alone_before → AreLegal l service items → IsAnswered l service items message new → IsAfter new
    answered new legal sends a before (inl is) = subst IsAfter (sym is) (record {
      calls_are = refl;
      sent_is = sent_made l service items (entry.Call message) (sends items before);
      told_is = replies_made l service items (entry.Call message) (sends items before);
      done = record { worked = []; is = refl; none_called = refl };
      kept = refl;
      going = message_goes l service now read;
      alone = a;
    })
    answered new legal sends a before (inr (step, stepping, called, is)) =
        let all : AreLegal l service (Made step ∷ told) = subst (AreLegal l service) is legal in
        let mid = (legal_made l service step told all).0 in
        subst IsAfter (sym is) (record {
          calls_are = by_step step stepping;
          sent_is = sent_made l service told step (sends told mid) ∙ sent_made l service items (entry.Call message) (sends items before);
          told_is = replies_made l service told step (sends told mid) ∙ replies_made l service items (entry.Call message) (sends items before);
          done = record { worked = step ∷ []; is = refl; none_called = no_call step stepping };
          kept = refl;
          going = step_goes step stepping (Message read ∷ past) ∙ message_goes l service now read;
          alone = step_alone step stepping all called a;
        })
      where
        by_step : (e : Entry) → is_step e ≡ true → calls_in (Made e ∷ told) ≡ calls_in items ++ message ∷ []
        by_step (entry.Call other) e = absurd (cc)
        by_step entry.Ended e = absurd (cc)
        by_step (entry.Claimed who part) e = refl
        by_step (entry.Finished who part) e = refl
        by_step (entry.Dropped who part) e = refl

        no_call : (e : Entry) → is_step e ≡ true → calls (e ∷ []) ≡ []
        no_call (entry.Call other) e = absurd (cc)
        no_call entry.Ended e = absurd (cc)
        no_call (entry.Claimed who part) e = refl
        no_call (entry.Finished who part) e = refl
        no_call (entry.Dropped who part) e = refl
