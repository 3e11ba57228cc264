-- What comes of workers' entries.
use Rattle.std.proofs.Common.{◌≡◌, ◌⊎◌, inl, inr, ℕ, ◌≤◌, List, [], ◌∷◌, ◌++◌, Ok, refl, ap, ◌∙◌}
use Rattle.std.specs.Prelude.{slice_get}
use Rattle.pide_base.specs.declared.part.Part.{Part}
use Rattle.language.specs.Lang.{Lang}
use Rattle.message_values.specs.declared.editor_message.EditorMessage.TheVariants as asks
use Rattle.message_values.specs.declared.mode.Mode.{Mode}
use Rattle.message_values.specs.declared.mode.Mode.TheVariants.{Replay}
use Rattle.reply_messages.specs.declared.told.Told.TheVariants as tells
use Rattle.core_rules.specs.declared.event.Event.TheVariants as event
use Rattle.session_rules.specs.declared.service.Service.{Service}
use Rattle.session_rules.specs.Heard.{Heard, Claimed, Finished, Dropped, Ended}
use Rattle.session_rules.specs.History.{session}
use Rattle.session_rules.specs.Legal.{IsLegal}
use Rattle.session_rules.specs.Replies.{claim_told, entry_replies}
use Rattle.session_rules.specs.Services.{free_workers}
use Rattle.session_rules.specs.Session.{Session, with_event}
use Rattle.session_rules.specs.Steps.{Due, Nothing, Claims, Finishes, due}
use Rattle.mirror_rules.specs.Answers.{Read}
use Rattle.mirror_rules.specs.Images.{Mirror}
use Rattle.mirror_rules.specs.Replies.{after_report, after_step, without_finish}
use Rattle.mirror_rules.specs.Telling.{IsTold}
use Rattle.editor_laws.proofs.EventSteps.{claimed, dropped, ended, expected, finished, reports}
use Rattle.editor_laws.proofs.Expected.{claimed_fine, dropped_fine, is_heard, report_fine}
use Rattle.editor_laws.proofs.Facts.{Facts}
use Rattle.editor_laws.proofs.ReportLaws.{Laws}
use Rattle.editor_laws.proofs.Mirrors.{Mirrors}
use Rattle.editor_laws.proofs.Outcomes.{Outcome, answer_outcome, mirrors_other, outcome_of, step_called}

-- a worker ends its part since a message said so, in a script; or by itself, where no such message
-- waits first
abbrev pub MayEnd : Mode → Due → ℕ → List Read → Type 0
MayEnd mode due who more = ((due ≡ Finishes who) × (mode ≡ Replay)) ⊎ ((due ≡ Nothing) × (without_finish mode more ≡ more))

module _ {S : Type 0} (l : Lang S) (laws : Laws) (is_told : IsTold l) (facts : Facts l) (mode : Mode) (service : Service) (h : List Heard) (m : Mirror)
    (more : List Read) (is : Mirrors l (session l service h) m) (waits : m.unanswered ≡ step_called (due l service h) ++ more) where
  abbrev s : Session
  s = session l service h

  pub claimed_step : (who : ℕ) (part : Part) → IsLegal l service (Claimed who part ∷ h)
      → Outcome l mode m (entry_replies l service h (Claimed who part))
      (session l service (Claimed who part ∷ h)) Nothing more
  claimed_step who part legal = go legal.1.1
    where
      now : Mirrors l (with_event s (event.Claimed who part)) m
      now = claimed l laws is_told facts s m (facts.legal service h legal.0) is who part legal.1.0.2

      go : (due l service h ≡ Claims who) ⊎ ((due l service h ≡ Nothing) × (who ≤ free_workers service)) →
          Outcome l mode m (entry_replies l service h (Claimed who part))
          (session l service (Claimed who part ∷ h)) Nothing more
      go (inl called) = outcome_of l mode m (tells.Claimed who part ∷ []) (entry_replies l service h (Claimed who part)) (with_event s (event.Claimed who part))
          (session l service (Claimed who part ∷ h)) Nothing Nothing more (ap (claim_told part) called) refl refl
          (answer_outcome l mode m (Ok (asks.Claim who)) more (tells.Claimed who part) (with_event s (event.Claimed who part))
          (waits ∙ ap (λ d. step_called d ++ more) called) (claimed_fine m who part) refl
          (mirrors_other l (with_event s (event.Claimed who part)) (with_event s (event.Claimed who part)) m (record m { unanswered = more }) now refl refl refl refl) refl)
      go (inr free) = outcome_of l mode m [] (entry_replies l service h (Claimed who part)) (with_event s (event.Claimed who part))
          (session l service (Claimed who part ∷ h)) Nothing Nothing more (ap (claim_told part) free.0) refl refl
          (record { mirror = m; hears = refl; is = now; waits = waits ∙ ap (λ d. step_called d ++ more) free.0 })

  left_waiting : (who : ℕ) → MayEnd mode (due l service h) who more → without_finish mode m.unanswered ≡ more
  left_waiting who (inl called) =
      ap (λ c. without_finish c m.unanswered) called.1
      ∙ ap (without_finish Replay) (waits ∙ ap (λ d. step_called d ++ more) called.0)
  left_waiting who (inr free) = ap (without_finish mode) (waits ∙ ap (λ d. step_called d ++ more) free.0) ∙ free.1

  pub finished_step : (who : ℕ) (part : Part) → IsLegal l service (Finished who part ∷ h) → MayEnd mode (due l service h) who more
      → Outcome l mode m (entry_replies l service h (Finished who part))
      (session l service (Finished who part ∷ h)) Nothing more
  finished_step who part legal may =
      let listed = facts.legal service h legal.0 in
      let rs = reports l laws is_told facts s m listed is who part legal.1.0.0 in
      record {
        mirror = after_step mode (after_report m part rs);
        hears = (
          after_step mode (after_report m part rs),
          is_heard mode m (tells.Report part rs) (report_fine m (slice_get m.unanswered 0) part rs
              (expected l laws is_told facts s m listed is who part legal.1.0.0 legal.1.0.1)),
          refl,
        );
        is = mirrors_other l (with_event s (event.Finished who part)) (with_event s (event.Finished who part)) (after_report m part rs)
            (after_step mode (after_report m part rs)) (finished l laws is_told facts s m listed is who part legal.1.0.0) refl refl refl refl;
        waits = left_waiting who may;
      }

  pub dropped_step : (who : ℕ) (part : Part) → IsLegal l service (Dropped who part ∷ h) → MayEnd mode (due l service h) who more
      → Outcome l mode m (entry_replies l service h (Dropped who part))
      (session l service (Dropped who part ∷ h)) Nothing more
  dropped_step who part legal may =
      let listed = facts.legal service h legal.0 in
      record {
        mirror = after_step mode m;
        hears = (after_step mode m, is_heard mode m (tells.Dropped part) (dropped_fine m (slice_get m.unanswered 0) part), refl);
        is = mirrors_other l (with_event s (event.Dropped who part)) (with_event s (event.Dropped who part)) m (after_step mode m)
            (dropped l laws is_told facts s m listed is who part legal.1.0.0) refl refl refl refl;
        waits = left_waiting who may;
      }

  pub ended_step : IsLegal l service (Ended ∷ h)
      → Outcome l mode m (entry_replies l service h Ended) (session l service (Ended ∷ h)) Nothing
      more
  ended_step legal = record {
    mirror = m;
    hears = refl;
    is = ended l laws is_told facts s m (facts.legal service h legal.0) is;
    waits = waits ∙ ap (λ d. step_called d ++ more) legal.1.1;
  }
