-- What a caller knows after it ended the part that it held.
use Rattle.std.proofs.Common.{◌≡◌, ◌≢◌, ℕ, ◌≤◌, List, [], ◌∷◌, ◌++◌, reverse, None, Some, inl, inr, refl, sym, ap, subst, ◌∙◌}
use Rattle.language.specs.Lang.{Lang}
use Rattle.pide_base.specs.declared.part.Part.{Part}
use Rattle.document_session.specs.prover_core_below.declared.finishing.Finish.{Finish}
use Rattle.document_session.specs.prover_core_below.declared.finishing.Finish.TheVariants as finish
use Rattle.hist_lock.specs.Entries.{own}
use Rattle.hist_lock.specs.declared.view.View.{View}
use Rattle.worker_loop.specs.Answers.{Makes}
use Rattle.worker_loop.specs.Held.{held_in}
use Rattle.worker_loop.specs.Stays.{SeesOn}
use Rattle.worker_loop.specs.declared.said.Said.TheVariants as said
use Rattle.core_rules.specs.Standing.{held}
use Rattle.reply_outbox.specs.declared.item.Item.TheVariants as item
use Rattle.session_rules.specs.declared.entry.Entry.TheVariants as entry
use Rattle.document_session.specs.keeping_rules_below.Works.{IsDoneWorkOf}
use Rattle.document_session.specs.session_replies_below.Works.{Work, WorkDone}
use Rattle.document_session.specs.keeping_rules_below.Items.{SessionItem}
use Rattle.document_session.specs.declared.working.GiveUp.{GiveUp}
use Rattle.document_session.specs.declared.working.GiveUp.TheVariants as give_up
use Rattle.document_session.specs.Answers.{FinishedSo, GivenUpSo}
use Rattle.thread_serve.specs.Contents.{SharedState}
use Rattle.view_laws.specs.Callers.{service_of, whose, worker_count}
use Rattle.view_laws.specs.Histories.{IsLegalLog, session_after}
use Rattle.view_laws.specs.Says.{says}
use Rattle.view_laws.specs.Works.{IsRightDone}
use Rattle.thread_serve.proofs.Lists.{OneOf, grown_by, not_grown}
use Rattle.thread_serve.proofs.Turns.{FitsView, IsTurn, makes, sees_on}
use Rattle.thread_serve.proofs.Claims.{HeldLaw, holds_known}

module _ {S : Type 0} (l : Lang S) where
  -- only the reader and workers hold parts
  abbrev pub FreeLaw : Type 0
  FreeLaw = (log : List SessionItem) (who : ℕ) → IsLegalLog l log → held_in says (own whose who log) ≢ None → who ≤ worker_count log

  module _ (v : View SessionItem) (who : ℕ) (is : v.caller ≡ who) (part : Part) (holds : held_in says v.mine ≡ Some part) where
    pub holds_still : HeldLaw l → (x : SharedState) → FitsView l v x → held (session_after l x.log).events who ≡ Some part
    holds_still law x fits = holds_known l law v x who fits is ∙ holds

    pub is_worker : FreeLaw → (x : SharedState) → FitsView l v x → who ≤ worker_count x.log
    is_worker law x fits = law x.log who fits.is_legal (λ none.
        let own_is : own whose who x.log ≡ v.mine = subst (λ c. own whose c x.log ≡ v.mine) is fits.mine in
        let no : Some part ≡ None = sym holds ∙ (ap (λ (mine : List SessionItem). held_in says mine) (sym own_is) ∙ none) in
        absurd (let never : ⊥ = cc in never))

  -- what came of the job may be handed in
  pub done_right : (x : SharedState) (who : ℕ) (done : WorkDone S) → held (session_after l x.log).events who ≡ Some done.done.part
      → IsRightDone l x.log done → IsDoneWorkOf l (session_after l x.log) who done
  done_right x who done holds right = record { holds = holds; right = right.right; source = right.source; protocol = right.protocol }

  module _ (who : ℕ) (part : Part) where
    abbrev pub Finishes : SharedState → Finish → SharedState → Type 0
    Finishes old answer new = FinishedSo l (service_of old.log) who part (reverse old.log) answer (reverse new.log)

    abbrev finished_item : SessionItem
    finished_item = item.Made (entry.Finished who part)

    abbrev dropped_item : SessionItem
    dropped_item = item.Made (entry.Dropped who part)

    pub finishes_own : (old new : SharedState) (f : Finish) → Finishes old f new → OneOf who old.log new.log
    finishes_own old new finish.Finished so = inr (finished_item, refl, grown_by finished_item old.log new.log so.1)
    finishes_own old new finish.Dropped so = inr (dropped_item, refl, grown_by dropped_item old.log new.log so.1)

    pub finished : (v w : View SessionItem) → IsTurn l Finishes v finish.Finished w → Makes says v (said.Finished part) w
    finished v w t = makes l Finishes v finish.Finished w t finished_item (grown_by finished_item t.before.log t.after.log t.given.1)

    pub dropped : (v w : View SessionItem) → IsTurn l Finishes v finish.Dropped w → Makes says v (said.Dropped part) w
    dropped v w t = makes l Finishes v finish.Dropped w t dropped_item (grown_by dropped_item t.before.log t.after.log t.given.1)

  module _ (who : ℕ) (work : Work S) where
    abbrev pub GivesUp : SharedState → GiveUp S → SharedState → Type 0
    GivesUp old answer new = GivenUpSo l (service_of old.log) who work (reverse old.log) answer (reverse new.log)

    abbrev given_up_item : SessionItem
    given_up_item = item.Made (entry.Dropped who work.job.part)

    pub gives_up_own : (old new : SharedState) (g : GiveUp S) → GivesUp old g new → OneOf who old.log new.log
    gives_up_own old new give_up.Dropped so = inr (given_up_item, refl, grown_by given_up_item old.log new.log so.1)
    gives_up_own old new (give_up.GoOn back) so = inl (not_grown old.log new.log so.2)

    pub given_up : (v w : View SessionItem) → IsTurn l GivesUp v give_up.Dropped w → Makes says v (said.Dropped work.job.part) w
    given_up v w t = makes l GivesUp v give_up.Dropped w t given_up_item (grown_by given_up_item t.before.log t.after.log t.given.1)

    pub goes_on : (v w : View SessionItem) (back : Work S) → IsTurn l GivesUp v (give_up.GoOn back) w → SeesOn v w × (back ≡ work)
    goes_on v w back t = (sees_on l GivesUp v (give_up.GoOn back) w t (not_grown t.before.log t.after.log t.given.2), t.given.1)
