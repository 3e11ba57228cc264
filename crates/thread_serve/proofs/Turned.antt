-- What calls of the session's add to the list.
use Rattle.std.proofs.Common.{◌≡◌, ◌⊎◌, ℕ, List, [], ◌∷◌, ◌++◌, reverse, Result, Ok, Err, IfOk, OnErr, inl, inr, refl, sym, ap, subst, ◌∙◌}
use Rattle.pide_base.specs.declared.part.Part.{Part}
use Rattle.language.specs.Lang.{Lang}
use Rattle.hist_lock.specs.Entries.{Grows}
use Rattle.document_session.specs.prover_core_below.declared.finishing.Finish.{Finish}
use Rattle.document_session.specs.prover_core_below.declared.finishing.Finish.TheVariants as finish
use Rattle.reply_outbox.specs.declared.item.Item.TheVariants as item
use Rattle.session_rules.specs.declared.entry.Entry.TheVariants as entry
use Rattle.session_rules.specs.declared.service.Service.{Service}
use Rattle.document_session.specs.session_replies_below.Works.{Work}
use Rattle.document_session.specs.keeping_rules_below.Items.{SessionItem}
use Rattle.document_session.specs.declared.working.Claim.{Claim}
use Rattle.document_session.specs.declared.working.Claim.TheVariants as claim
use Rattle.document_session.specs.declared.working.GiveUp.{GiveUp}
use Rattle.document_session.specs.declared.working.GiveUp.TheVariants as give_up
use Rattle.document_session.specs.Answers.{ClaimedSo, FinishedSo, GivenUpSo}
use Rattle.thread_serve.proofs.TurnLogs.{grows_by, grows_not}

module _ {S : Type 0} (l : Lang S) (service : Service) (who : ℕ) (items new log : List SessionItem) (e : reverse items ≡ log) where
  pub finished_grows : (part : Part) (f : Finish) → FinishedSo l service who part items f new → Grows log (reverse new)
  finished_grows part finish.Finished so = grows_by (item.Made (entry.Finished who part)) items new log e so.1
  finished_grows part finish.Dropped so = grows_by (item.Made (entry.Dropped who part)) items new log e so.1

  pub given_up_grows : (work : Work S) (g : GiveUp S) → GivenUpSo l service who work items g new → Grows log (reverse new)
  given_up_grows work give_up.Dropped so = grows_by (item.Made (entry.Dropped who work.job.part)) items new log e so.1
  given_up_grows work (give_up.GoOn back) so = grows_not items new log e so.2

  pub claimed_grows : (c : Claim S) → ClaimedSo l service who items c new → Grows log (reverse new)
  claimed_grows (claim.Job work flag) so = grows_by (item.Made (entry.Claimed who work.job.part)) items new log e so.0
  claimed_grows claim.Nothing so = grows_not items new log e so.0
  claimed_grows claim.NoMemory so = grows_not items new log e so
