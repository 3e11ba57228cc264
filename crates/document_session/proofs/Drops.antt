-- A part that a worker lets go, since it isn't wanted any more.
use Rattle.std.proofs.Common.{◌≡◌, ℕ, ◌+◌, ◌≤◌, true, false, List, [], ◌∷◌, ◌++◌, Some, refl, sym, ap, subst, ◌∙◌}
use Rattle.pide_base.specs.declared.part.Part.{Part}
use Rattle.language.specs.Lang.{Lang}
use Rattle.core_jobs.specs.Jobs.{JobContent}
use Rattle.core_rules.specs.declared.event.Event.{Event}
use Rattle.core_rules.specs.declared.event.Event.TheVariants as event
use Rattle.core_rules.specs.Ready.{is_wanted}
use Rattle.core_rules.specs.Standing.{held}
use Rattle.prover_core.specs.declared.finishing.GiveUp.TheVariants as giving
use Rattle.prover_core.specs.Answers.{GivenUpSo as CoreGivenUpSo}
use Rattle.reply_outbox.specs.declared.item.Item.TheVariants.{Made}
use Rattle.reply_outbox.specs.Waiting.{Log}
use Rattle.reply_messages.specs.declared.told.Told.TheVariants as tells
use Rattle.session_rules.specs.declared.entry.Entry.{Entry}
use Rattle.session_rules.specs.declared.entry.Entry.TheVariants as entry
use Rattle.session_rules.specs.declared.service.Service.{Service}
use Rattle.session_rules.specs.Services.{free_workers}
use Rattle.session_rules.specs.Session.{Session, document}
use Rattle.keeping_rules.specs.session_replies_below.Spelling.{reply_spelling}
use Rattle.keeping_rules.specs.session_replies_below.Works.{Work}
use Rattle.keeping_rules.specs.Items.{SessionItem, session_in}
use Rattle.keeping_rules.specs.Kept.{IsKept}
use Rattle.keeping_rules.specs.States.{State, IsSound, with_past}
use Rattle.keeping_rules.specs.Workers.{FreeLaws}
use Rattle.document_session.specs.declared.working.GiveUp.TheVariants as give_up
use Rattle.document_session.specs.Answers.{GivenUpSo}
use Rattle.document_session.specs.Contents.{SessionState}
use Rattle.document_session.proofs.Still.{seen}

module _ {S : Type 0} (l : Lang S) (service : Service) (st : State S) (k : IsSound l service st) (who : ℕ) (work : Work S) (job : JobContent S)
    (same : job ≡ work.job) (past : List Event) where
  -- what is kept then
  pub dropped_kept : CoreGivenUpSo l who job st.session.events giving.Dropped past → FreeLaws l → who ≤ free_workers service
      → held st.session.events who ≡ Some work.job.part → (part : Part) → part ≡ work.job.part → (holding : ℕ) → holding + 1 ≡ st.holding
      → (bytes : List ℕ) → bytes ≡ reply_spelling (tells.Dropped work.job.part)
      → (new : Log Service Entry)
      → new.items ≡ Made (entry.Dropped who part) ∷ st.log.items → new.waiting ≡ st.log.waiting ++ bytes ∷ [] → new.free + 1 ≡ st.log.free
      → IsKept l service new (with_past st.session past) st.last holding st.jobs
  dropped_kept told laws free holds part part_is holding less bytes bytes_are new items waiting room =
      subst (λ (h : List Event). IsKept l service new (with_past st.session h) st.last holding st.jobs)
      (sym (told.1 ∙ ap (λ (j : JobContent S). event.Dropped who j.part ∷ st.session.events) same))
      (laws.given_up service st who work.job.part holding new k free holds
      (subst (λ (j : JobContent S). is_wanted (document l st.session) j.part.exec ≡ false) same told.0)
      (items ∙ ap (λ (p : Part). Made (entry.Dropped who p) ∷ st.log.items) part_is)
      (waiting ∙ ap (λ (b : List ℕ). st.log.waiting ++ b ∷ []) bytes_are) room less)

  -- what is answered: the part is let go
  pub dropped_so : CoreGivenUpSo l who job st.session.events giving.Dropped past → (part : Part) → part ≡ work.job.part
      → (now : SessionState) → seen service st.log ≡ now → (new : List SessionItem) → new ≡ Made (entry.Dropped who part) ∷ st.log.items
      → GivenUpSo l now.service who work now.items give_up.Dropped new
  dropped_so told part part_is now is new items =
      subst (λ (x : SessionState). GivenUpSo l x.service who work x.items give_up.Dropped new) is (
        subst (λ (j : JobContent S). is_wanted (document l (session_in l service st.log.items)) j.part.exec ≡ false) same
            (ap (λ (t : Session). is_wanted (document l t) job.part.exec) k.listed.stands ∙ told.0),
        items ∙ ap (λ (p : Part). Made (entry.Dropped who p) ∷ st.log.items) part_is,
      )

  -- or the job goes on as it was
  pub goes_on_so : (back : JobContent S) → CoreGivenUpSo l who job st.session.events (giving.GoOn back) past → (going : Work S)
      → going ≡ work → (now : SessionState) → seen service st.log ≡ now → GivenUpSo l now.service who work now.items (give_up.GoOn going) st.log.items
  goes_on_so back told going as_it_was now is =
      subst (λ (x : SessionState). GivenUpSo l x.service who work x.items (give_up.GoOn going) st.log.items) is (
        subst (λ (j : JobContent S). is_wanted (document l (session_in l service st.log.items)) j.part.exec ≡ true) same
            (ap (λ (t : Session). is_wanted (document l t) job.part.exec) k.listed.stands ∙ told.0),
        as_it_was,
        refl,
      )
