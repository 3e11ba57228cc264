-- What workers did, told by the list.
use Rattle.std.proofs.Common.{◌≡◌, ℕ, true, false, cond, List, ◌∷◌, Some, refl, sym, ap, subst, ◌∙◌, eq-eqb}
use Rattle.pide_base.specs.declared.part.Part.{Part}
use Rattle.language.specs.Lang.{Lang}
use Rattle.core_jobs.specs.Fits.{IsJobOf}
use Rattle.core_jobs.specs.Jobs.{JobContent}
use Rattle.message_values.specs.declared.protocol.Protocol.{Protocol}
use Rattle.core_rules.specs.declared.event.Event.{Event}
use Rattle.core_rules.specs.declared.event.Event.TheVariants as event
use Rattle.core_rules.specs.Ready.{is_wanted}
use Rattle.core_rules.specs.Standing.{held}
use Rattle.prover_core.specs.declared.finishing.Finish.{Finish}
use Rattle.prover_core.specs.declared.finishing.Finish.TheVariants as finish
use Rattle.prover_core.specs.Answers.{FinishedSo as CoreFinishedSo}
use Rattle.reply_outbox.specs.declared.item.Item.TheVariants.{Made}
use Rattle.session_rules.specs.declared.service.Service.{Service}
use Rattle.session_rules.specs.Session.{Session, document}
use Rattle.keeping_rules.specs.session_replies_below.Works.{Work}
use Rattle.keeping_rules.specs.Items.{SessionItem, session_in}
use Rattle.keeping_rules.specs.States.{with_past}
use Rattle.keeping_rules.specs.Turns.{entry_of}
use Rattle.keeping_rules.specs.Works.{IsWorkOf}
use Rattle.document_session.specs.Answers.{FinishedSo}

-- the work that a worker took
pub work_taken : {S : Type 0} (l : Lang S) (s after : Session) (who : ℕ) (work : Work S)
    → after ≡ with_past s (event.Claimed who work.job.part ∷ s.events) → IsJobOf l (document l s).homes work.job
    → work.protocol ≡ s.protocol → IsWorkOf l after who work
work_taken l s after who work is right protocol = subst (λ (t : Session). IsWorkOf l t who work) (sym is) (record {
  holds = ap (λ b. cond b (Some work.job.part) (held s.events who)) (eq-eqb who who refl);
  right = right;
  protocol = protocol;
})

-- how a part ended
pub finished_so : {S : Type 0} (l : Lang S) (service : Service) (old new : List SessionItem) (s : Session) (who : ℕ) (part : Part)
    (f : Finish) (past : List Event) → session_in l service old ≡ s → CoreFinishedSo l who part s.events f past
    → new ≡ Made (entry_of f who part) ∷ old → FinishedSo l service who part old f new
finished_so l service old new s who part finish.Finished past stands so is =
    (subst (λ (t : Session). is_wanted (document l t) part.exec ≡ true) (sym stands) so.0, is)
finished_so l service old new s who part finish.Dropped past stands so is =
    (subst (λ (t : Session). is_wanted (document l t) part.exec ≡ false) (sym stands) so.0, is)

-- a job that came back as it was
pub same_work : {S : Type 0} (work back : Work S) (job : JobContent S) (protocol : Protocol)
    → back ≡ record { job = job; protocol = protocol } → job ≡ work.job → protocol ≡ work.protocol → back ≡ work
same_work {S} work back job protocol is same told =
    is ∙ ap (λ (j : JobContent S). record { job = j; protocol = protocol }) same
    ∙ ap (λ (p : Protocol). record { job = work.job; protocol = p }) told
