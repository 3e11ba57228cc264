-- What is told of a part that is done is what its job wrote.
use Rattle.std.proofs.Common.{◌≡◌, ℕ, List, Option, Some, None, refl, sym, ap, ◌∙◌}
use Rattle.std.specs.Option.{option_map}
use Rattle.language.specs.Lang.{Lang}
use Rattle.message_values.specs.declared.protocol.Protocol.{Protocol}
use Rattle.reply_messages.specs.declared.told.Told.TheVariants as tells
use Rattle.core_rules.specs.Settings.{Setting, setting}
use Rattle.core_jobs.specs.declared.done.Done.{Done}
use Rattle.core_jobs.specs.declared.input.Input.TheVariants.{State}
use Rattle.core_jobs.specs.Jobs.{JobContent}
use Rattle.core_jobs.specs.Fits.{IsJobOf, IsDoneOf}
use Rattle.session_rules.specs.Session.{Session, document}
use Rattle.session_rules.specs.Shown.{protocol_reports}
use Rattle.session_rules.specs.Replies.{report_of}
use Rattle.session_replies.specs.Reported.{source_of}
use Rattle.session_replies.specs.Works.{WorkDone}
use Rattle.session_replies.specs.Works as jobs
use Rattle.keeping_rules.specs.Works.{IsDoneWorkOf}

module _ {S : Type 0} (l : Lang S) (s : Session)
    (told : (done : Done S) → IsDoneOf l (document l s).homes done → report_of l s done.part ≡ tells.Report done.part (protocol_reports s.protocol
    (source_of (document l s).homes done.part.exec) done.reports))
    (source : (job : JobContent S) → IsJobOf l (document l s).homes job → source_of (document l s).homes job.part.exec ≡ job.source) where
  source_is : (who : ℕ) (work : WorkDone S) → IsDoneWorkOf l s who work → source_of (document l s).homes work.done.part.exec ≡ work.source
  source_is who work is = go (setting l (document l s).homes work.done.part.exec) refl is.source
    where
      go : (o : Option (Setting S)) → setting l (document l s).homes work.done.part.exec ≡ o → option_map (λ x. x.source) o ≡ Some work.source
          → source_of (document l s).homes work.done.part.exec ≡ work.source
      go None at e = absurd (cc)
      go (Some x) at e =
          let job : JobContent S = record { part = work.done.part; source = x.source; blob = x.blob; input = State x.state } in
          let same : x.source ≡ work.source = cc in source job at ∙ same

  pub reported : (who : ℕ) (work : WorkDone S) → IsDoneWorkOf l s who work → report_of l s work.done.part ≡ jobs.work_report work
  reported who work is = told work.done is.right
      ∙ ap (λ (p : Protocol). tells.Report work.done.part (protocol_reports p (source_of (document l s).homes work.done.part.exec) work.done.reports)) (sym is.protocol)
      ∙ ap (λ (text : List ℕ). tells.Report work.done.part (protocol_reports work.protocol text work.done.reports)) (source_is who work is)
