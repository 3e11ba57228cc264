-- What a caller knows after it tried to claim a part.
use Rattle.std.proofs.Common.{◌≡◌, ◌≢◌, ℕ, ◌≤◌, List, [], ◌∷◌, ◌++◌, reverse, None, inl, inr, refl, sym, ap, subst, ◌∙◌, arith}
use mathlib.Core.List.{IsPrefix}
use Rattle.language.specs.Lang.{Lang}
use Rattle.hist_lock.specs.Entries.{own}
use Rattle.hist_lock.specs.declared.view.View.{View}
use Rattle.worker_loop.specs.Answers.{Makes}
use Rattle.worker_loop.specs.Held.{held_in}
use Rattle.worker_loop.specs.Stays.{Stays}
use Rattle.worker_loop.specs.declared.said.Said.TheVariants as said
use Rattle.core_jobs.specs.Fits.{IsJobOf}
use Rattle.core_rules.specs.Standing.{held}
use Rattle.reply_outbox.specs.declared.item.Item.TheVariants as item
use Rattle.session_rules.specs.declared.entry.Entry.TheVariants as entry
use Rattle.session_rules.specs.declared.service.Service.TheVariants.{Workers}
use Rattle.session_rules.specs.Session.{Session, document}
use Rattle.document_session.specs.session_replies_below.Works.{Work}
use Rattle.document_session.specs.keeping_rules_below.Items.{SessionItem, session_in}
use Rattle.document_session.specs.Answers.{IsClaimed}
use Rattle.thread_serve.specs.Contents.{SharedState}
use Rattle.thread_serve.specs.Ends.{IsGoing}
use Rattle.thread_serve.specs.Working.{ClaimsSo, FindsNoPart}
use Rattle.thread_serve.specs.declared.claiming.Claiming.{Claiming}
use Rattle.thread_serve.specs.declared.claiming.Claiming.TheVariants as claiming
use Rattle.view_laws.specs.Callers.{service_of, whose, worker_count}
use Rattle.view_laws.specs.Histories.{IsLegalLog, session_after}
use Rattle.view_laws.specs.Idle.{HasNothingToDo}
use Rattle.view_laws.specs.Says.{says}
use Rattle.view_laws.specs.Works.{IsRightWork}
use Rattle.thread_serve.proofs.Lists.{OneOf, begins, grown_by, some_legal}
use Rattle.thread_serve.proofs.Turns.{FitsView, IsTurn, caller_stays, makes, seen_is}

module _ {S : Type 0} (l : Lang S) where
  -- what a caller holds is told by its own items
  abbrev pub HeldLaw : Type 0
  HeldLaw = (log : List SessionItem) (who : ℕ) → held (session_after l log).events who ≡ held_in says (own whose who log)

  abbrev pub SameLaw : Type 0
  SameLaw = (seen log : List SessionItem) → seen ≢ [] → IsPrefix seen log → worker_count log ≡ worker_count seen

  abbrev pub StaysLaw : Type 0
  StaysLaw = (seen log : List SessionItem) (work : Work S) → IsPrefix seen log → IsLegalLog l log → IsRightWork l seen work → IsRightWork l log work

  -- what a caller holds it knows
  pub holds_known : HeldLaw → (v : View SessionItem) (x : SharedState) (who : ℕ) → FitsView l v x → v.caller ≡ who
      → held (session_after l x.log).events who ≡ held_in says v.mine
  holds_known law v x who fits is = law x.log who
      ∙ ap (λ (mine : List SessionItem). held_in says mine) (subst (λ c. own whose c x.log ≡ v.mine) is fits.mine)

  module _ (who : ℕ) where
    abbrev pub Claims : SharedState → Claiming S → SharedState → Type 0
    Claims old answer new = ClaimsSo l who old.log answer new.log

    pub claims_own : (old new : SharedState) (a : Claiming S) → Claims old a new → OneOf who old.log new.log
    claims_own old new (claiming.Job work flag) so =
        let one : SessionItem = item.Made (entry.Claimed who work.job.part) in inr (one, refl, grown_by one old.log new.log so.0)
    claims_own old new claiming.Nothing so = inl so.0
    claims_own old new claiming.Ended so = inl so.0
    claims_own old new claiming.Lost so = inl so.0
    claims_own old new claiming.NoMemory so = inl so

    module _ (v : View SessionItem) (a : Claiming S) (w : View SessionItem) (t : IsTurn l Claims v a w) where
      pub job_made : (work : Work S) → reverse t.after.log ≡ item.Made (entry.Claimed who work.job.part) ∷ reverse t.before.log
          → Makes says v (said.Claimed work.job.part) w
      job_made work is = let one : SessionItem = item.Made (entry.Claimed who work.job.part) in
          makes l Claims v a w t one (grown_by one t.before.log t.after.log is)

      session_now : SameLaw → (x : SessionItem) → t.after.log ≡ t.before.log ++ x ∷ []
          → session_in l (service_of t.before.log) (reverse t.after.log) ≡ session_after l t.after.log
      session_now same x grown = ap (λ n. session_in l (Workers n) (reverse t.after.log))
          (sym (same t.before.log t.after.log (some_legal l t.before.log t.fits.is_legal) (begins x t.before.log t.after.log grown)))

      -- there is nothing to do before another item comes
      pub idle_so : HeldLaw → v.caller ≡ who → held_in says v.mine ≡ None → t.after.log ≡ t.before.log → who ≤ worker_count t.before.log
          → IsGoing l t.before.log → FindsNoPart l who t.before.log → HasNothingToDo l w.seen w.caller
      idle_so law is free same few going (inl none) =
          subst (λ c. HasNothingToDo l w.seen c) (sym (caller_stays l Claims v a w t ∙ is))
          (subst (λ (xs : List SessionItem). HasNothingToDo l xs who) (sym (seen_is l Claims v a w t same))
          (record { going = going; worker = λ within. none; writer = λ writer. absurd (omega (arith, few, writer)) }))
      idle_so law is free same few going (inr holds) = absurd (holds (holds_known law v t.before who t.fits is ∙ free))

      -- the job is right, and stays so
      pub job_right : SameLaw → StaysLaw → (work : Work S)
          → IsClaimed l (service_of t.before.log) who (reverse t.before.log) work (reverse t.after.log)
          → Stays (IsLegalLog l) w.seen (λ log. IsRightWork l log work)
      job_right same stays work so =
          let one : SessionItem = item.Made (entry.Claimed who work.job.part) in
          let now = session_now same one (grown_by one t.before.log t.after.log so.0) in
          let here : IsRightWork l t.after.log work = record {
            right = subst (λ (s : Session). IsJobOf l (document l s).homes work.job) now so.1.right;
            protocol = so.1.protocol ∙ ap (λ (s : Session). s.protocol) now;
          } in
          λ log p are. stays w.seen log work p are (subst (λ (xs : List SessionItem). IsRightWork l xs work) (sym t.seen) here)
