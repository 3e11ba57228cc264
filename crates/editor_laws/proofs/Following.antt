-- An editor that follows a history mirrors its session.
use Rattle.std.proofs.Common.{◌≡◌, ◌⊎◌, inl, inr, ℕ, ◌≤◌, List, [], ◌∷◌, ◌++◌, Some, None, refl, ap, sym, subst, ◌∙◌, append-nil, append_assoc}
use Rattle.language.specs.Lang.{Lang}
use Rattle.message_values.specs.declared.editor_message.EditorMessage.TheVariants as asks
use Rattle.message_values.specs.declared.mode.Mode.{Mode}
use Rattle.message_values.specs.declared.mode.Mode.TheVariants.{Replay}
use Rattle.message_values.specs.Asked.{asked}
use Rattle.reply_messages.specs.declared.told.Told.{Told}
use Rattle.session_rules.specs.declared.entry.Entry.{Entry}
use Rattle.session_rules.specs.declared.entry.Entry.TheVariants as entry
use Rattle.session_rules.specs.declared.service.Service.{Service}
use Rattle.session_rules.specs.declared.service.Service.TheVariants.{Script}
use Rattle.session_rules.specs.Alone.{IsAlone}
use Rattle.session_rules.specs.Heard.{all_heard, heard}
use Rattle.session_rules.specs.History.{session}
use Rattle.session_rules.specs.Legal.{IsLegal}
use Rattle.session_rules.specs.Replies.{entry_replies}
use Rattle.session_rules.specs.Services.{free_workers, mode_of}
use Rattle.session_rules.specs.Session.{Session}
use Rattle.session_rules.specs.Steps.{Nothing, Finishes, due}
use Rattle.session_rules.proofs.KnownScript.{script_finishes}
use Rattle.session_rules.proofs.KnownNamed.{AskedLaw, finishes_asked}
use Rattle.mirror_rules.specs.Answers.{Read}
use Rattle.mirror_rules.specs.Images.{Mirror, empty_mirror}
use Rattle.editor_laws.proofs.StartImage.{start_image}
use Rattle.editor_laws.proofs.MayEnd.{drops_so, finishes_so}
use Rattle.mirror_rules.specs.Moves.{Move, Sent, Heard, Going, reflection_by, mirrored, next_reflection}
use Rattle.mirror_rules.specs.Telling.{IsTold}
use Rattle.editor_laws.specs.Follows.{AreFirst, AreHeard, Follows, call_of, calls, sends}
use Rattle.editor_laws.proofs.Facts.{Facts}
use Rattle.editor_laws.proofs.ReportLaws.{Laws}
use Rattle.editor_laws.proofs.MessageComes.{message_step}
use Rattle.editor_laws.proofs.Mirrors.{Mirrors}
use Rattle.editor_laws.proofs.Outcomes.{Hears, Outcome, mirrors_other, step_called}
use Rattle.editor_laws.proofs.WorkerStep.{MayEnd, claimed_step, dropped_step, ended_step, finished_step}

-- messages that are sent wait at the end
sent_waits : (mode : Mode) (after : List Read) (moves : List Move) (m : Mirror) → mirrored mode moves ≡ Going m
    → mirrored mode (sends after moves) ≡ Going (record m { unanswered = m.unanswered ++ after })
sent_waits mode [] moves m is = is ∙ ap (λ rs. Going (record m { unanswered = rs })) (sym (append-nil m.unanswered))
sent_waits mode (read ∷ after) moves m is =
    sent_waits mode after (Sent read ∷ moves) (record m { unanswered = m.unanswered ++ read ∷ [] }) (ap (λ r. next_reflection mode r (Sent read)) is)
    ∙ ap (λ rs. Going (record m { unanswered = rs })) (append_assoc m.unanswered (read ∷ []) after)

-- replies are heard
replies_heard : (mode : Mode) (told : List Told) (older newer : List Move) (m n : Mirror) → AreHeard told older newer → Hears mode m told n
    → mirrored mode older ≡ Going m → mirrored mode newer ≡ Going n
replies_heard mode [] older newer m n heard hears is = ap (mirrored mode) heard ∙ is ∙ ap Going (sym hears)
replies_heard mode (t ∷ ts) older newer m n heard hears is =
    replies_heard mode ts (Heard heard.0 (Some t) ∷ older) newer hears.0 n heard.1 hears.2
    (ap (λ r. next_reflection mode r (Heard heard.0 (Some t))) is ∙ ap (reflection_by heard.0) hears.1)

none_before : {A : Type 0} (xs : List A) → [] ≡ xs → xs ≡ []
none_before xs e = sym e

module _ {S : Type 0} (l : Lang S) (laws : Laws) (is_told : IsTold l) (facts : Facts l) (law : AskedLaw) (service : Service) where
  abbrev mode : Mode
  mode = mode_of service

  abbrev at : List Entry → Session
  at h = session l service (all_heard service h)

  -- what comes of an editor's doings
  pub record Reached (h : List Entry) (sent : List Read) (moves : List Move) : Type 0 where
    pub mirror : Mirror
    pub going : mirrored mode moves ≡ Going mirror
    pub is : Mirrors l (at h) mirror
    pub waits : mirror.unanswered ≡ step_called (due l service (all_heard service h)) ++ sent

  abbrev AloneIn : List Entry → Type 0
  AloneIn h = service ≡ Script → IsAlone l service None (all_heard service h)

  -- a worker may end its part
  script_due : (h : List Entry) (who : ℕ) → due l service (all_heard service h) ≡ Finishes who → mode ≡ Replay
  script_due [] who e = absurd (cc)
  script_due (entry.Claimed w p ∷ h) who e = absurd (cc)
  script_due (entry.Finished w p ∷ h) who e = absurd (cc)
  script_due (entry.Dropped w p ∷ h) who e = absurd (cc)
  script_due (entry.Ended ∷ h) who e = absurd (cc)
  script_due (entry.Call c ∷ h) who e =
      let asks_it = finishes_asked l service (at h) (asked (mode_of service) c) who e in
      ap mode_of (script_finishes service ((law (mode_of service) c (asks.Finish who)).0 asks_it).2)

  begins : (sent : List Read) (moves : List Move) → moves ≡ sends sent [] → Reached [] sent moves
  begins sent moves is = record {
    mirror = record empty_mirror { unanswered = sent };
    going = ap (mirrored mode) is ∙ sent_waits mode sent [] empty_mirror refl;
    is = record { buffer = refl; last = refl; protocol = refl; live = tt; tip = start_image l };
    waits = refl;
  }

  module _ (ahead h : List Entry) (before : List Read) (m : Mirror) (is : Mirrors l (at h) m) where
    abbrev Comes : Entry → Type 0
    Comes e = Outcome l mode m (entry_replies l service (all_heard service h) (heard service e)) (at (e ∷ h)) (due l service (all_heard service (e ∷ h))) before

    -- an entry more
    entry_step : (e : Entry) → IsLegal l service (all_heard service (e ∷ h)) → AloneIn (ahead ++ e ∷ h) → AreFirst before (calls service ahead)
        → m.unanswered ≡ step_called (due l service (all_heard service h)) ++ (call_of service e ++ before) → Comes e
    entry_step (entry.Call c) legal alone first waits =
        message_step l facts mode service (all_heard service h) m before is (asked (mode_of service) c) legal
        (waits ∙ ap (λ d. step_called d ++ (asked (mode_of service) c ∷ before)) legal.1.1)
    entry_step (entry.Claimed who part) legal alone first waits = claimed_step l laws is_told facts mode service (all_heard service h) m before is waits who part legal
    entry_step (entry.Finished who part) legal alone first waits =
        finished_step l laws is_told facts mode service (all_heard service h) m before is waits who part legal (by legal.1.1)
      where
        by : (due l service (all_heard service h) ≡ Finishes who) ⊎ ((due l service (all_heard service h) ≡ Nothing) × (who ≤ free_workers service))
            → MayEnd mode (due l service (all_heard service h)) who before
        by (inl called) = inl (called, script_due h who called)
        by (inr free) = inr (free.0, finishes_so l part ahead h before service who free.1 alone first)
    entry_step (entry.Dropped who part) legal alone first waits =
        dropped_step l laws is_told facts mode service (all_heard service h) m before is waits who part legal (by legal.1.1)
      where
        by : (due l service (all_heard service h) ≡ Finishes who) ⊎ ((due l service (all_heard service h) ≡ Nothing) × (who ≤ free_workers service))
            → MayEnd mode (due l service (all_heard service h)) who before
        by (inl called) = inl (called, script_due h who called)
        by (inr free) = inr (free.0, drops_so l part ahead h before service who free.1 alone)
    entry_step entry.Ended legal alone first waits = ended_step l laws is_told facts mode service (all_heard service h) m before is waits legal

  first_front : (before after cs : List Read) → AreFirst (before ++ after) cs → AreFirst before cs
  first_front before after cs first = (after ++ first.0, first.1 ∙ append_assoc before after first.0)

  -- the mirror is as the session
  pub follow : (ahead h : List Entry) (sent : List Read) (moves : List Move) → IsLegal l service (all_heard service h) → AloneIn (ahead ++ h)
      → Follows l service ahead h sent moves → Reached h sent moves
  follow ahead [] sent moves legal alone f = begins sent moves f.0
  follow ahead (e ∷ h) sent moves legal alone (before, after, older, newer, f, hears, is, split, first) =
      let r : Reached h (call_of service e ++ before) older = follow (ahead ++ e ∷ []) h (call_of service e ++ before) older legal.0
      (subst AloneIn (sym (append_assoc ahead (e ∷ []) h)) alone) f in
      let o : Outcome l mode r.mirror (entry_replies l service (all_heard service h) (heard service e)) (at (e ∷ h)) (due l service (all_heard service (e ∷ h))) before =
      entry_step ahead h before r.mirror r.is e legal alone
      (first_front before after (calls service ahead) (subst (λ rs. AreFirst rs (calls service ahead)) split first)) r.waits in
      record {
        mirror = record o.mirror { unanswered = o.mirror.unanswered ++ after };
        going = ap (mirrored mode) is ∙ sent_waits mode after newer o.mirror
            (replies_heard mode (entry_replies l service (all_heard service h) (heard service e)) older newer r.mirror o.mirror hears o.hears r.going);
        is = mirrors_other l (at (e ∷ h)) (at (e ∷ h)) o.mirror (record o.mirror { unanswered = o.mirror.unanswered ++ after }) o.is refl refl refl refl;
        waits = ap (λ rs. rs ++ after) o.waits ∙ append_assoc (step_called (due l service (all_heard service (e ∷ h)))) before after
            ∙ ap (λ rs. step_called (due l service (all_heard service (e ∷ h))) ++ rs) (sym split);
      }
