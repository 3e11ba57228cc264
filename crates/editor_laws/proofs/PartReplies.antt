-- What is told of parts can be read.
use Rattle.std.proofs.Common.{◌≡◌, ℕ, ◌+◌, true, List, [], ◌∷◌, Result, Ok, Err, refl, sym, subst, arith}
use Rattle.std.proofs.lemmas.Bool.{and_parts}
use Rattle.std.specs.Prelude.{not}
use Rattle.std.specs.Option.{option_map_or}
use Rattle.std.specs.List.{AllByRecursion}
use Rattle.text_words.specs.Members.{has}
use Rattle.pide_base.specs.Ids.{IsId}
use Rattle.pide_base.specs.declared.part.Part.{Part}
use Rattle.pide_base.specs.Limits.{most_scalars}
use Rattle.report_markup.specs.declared.report.Report.{Report}
use Rattle.core_tables.specs.declared.versions.Live.{Live}
use Rattle.exec_rules.specs.declared.home.Home.{Home}
use Rattle.exec_rules.specs.declared.version.Version.{Version}
use Rattle.language.specs.Lang.{Lang}
use Rattle.message_values.specs.declared.editor_message.EditorMessage.{EditorMessage}
use Rattle.message_values.specs.declared.editor_message.EditorMessage.TheVariants as asks
use Rattle.message_values.specs.declared.refusal.Refusal.{Refusal}
use Rattle.message_values.specs.Fits.{Fits}
use Rattle.message_values.specs.Workers.{IsWorker}
use Rattle.core_rules.specs.Assigned.{assigns, is_assigned}
use Rattle.core_rules.specs.Parts.{reports_of}
use Rattle.core_rules.specs.Ready.{is_part}
use Rattle.reply_messages.specs.FoundReplies.{IsReply}
use Rattle.session_rules.specs.declared.service.Service.{Service}
use Rattle.session_rules.specs.Heard.{Heard, Message, Claimed, Finished, Dropped, Ended}
use Rattle.session_rules.specs.Session.{Session, document}
use Rattle.session_rules.specs.Accepting.{accepted}
use Rattle.session_rules.specs.History.{session}
use Rattle.session_rules.specs.Legal.{IsLegal}
use Rattle.session_rules.specs.Replies.{claim_told, report_of}
use Rattle.session_rules.specs.Shown.{protocol_reports}
use Rattle.session_rules.specs.Steps.{Claims, Due, Finishes, Nothing, called_for, due, due_by}
use Rattle.editor_laws.proofs.KnownReported.{held_part}
use Rattle.editor_laws.proofs.FineDocs.{FineDoc, FineLive}
use Rattle.editor_laws.proofs.FittingReports.{AllFit, told_fit, told_fits}
use Rattle.text_words.proofs.KnownFinds.{any_from}
use Rattle.editor_laws.proofs.FittingSettings.{Reported, part_reported}
use Rattle.editor_laws.proofs.ReadCalls.{IsSound}
use Rattle.exec_rules.proofs.KnownThere.{all_at}
use Rattle.editor_laws.proofs.HistoryLaws.{HistoryLaws, Readable, fine_after, part_fits}

module _ {S : Type 0} (l : Lang S) (laws : HistoryLaws l) (service : Service) where
  report_told : (s : Session) (p : Part) → FineDoc (document l s)
      → is_part l (document l s).homes p ≡ true → Reported l laws.reports (document l s) p
      → IsReply (report_of l s p)
  report_told s p fine real r = record {
    fits = (
      part_fits l s p fine real,
      told_fits (most_scalars + 1) (omega arith) _
          (subst (λ o. AllFit (most_scalars + 1) (protocol_reports s.protocol
          (option_map_or (λ (x : Home). x.source) o [])
          (option_map_or (λ (rs : List Report). rs) (reports_of l (document l s).homes p) [])))
          (sym r.homed)
          (subst (λ o. AllFit (most_scalars + 1) (protocol_reports s.protocol r.home.source
          (option_map_or (λ (rs : List Report). rs) o []))) (sym r.are)
          (let short = r.short in told_fit laws.within s.protocol r.home.source most_scalars
          (most_scalars + 1) r.reports (omega arith) (omega (arith, short)) r.fit))),
    );
    form = tt;
  }

  -- a finished part
  pub finished_told : (h : List Heard) (who : ℕ) (p : Part) → IsLegal l service (Finished who p ∷ h)
      → AllByRecursion IsSound h
      → IsReply (report_of l (session l service h) p)
  finished_told h who p legal sound =
      let s = session l service h in
      let fine = fine_after l laws service h legal.0 sound in
      let events = laws.legal service h legal.0 in
      let real = held_part l s.events who p events legal.1.0.0 in
      let live = (and_parts (is_assigned (document l s).live p.exec)
      (not (has (document l s).cancelled p.exec)) legal.1.0.1).0 in
      let one = any_from (λ (x : Live Version). assigns x.version p.exec)
      (document l s).live live in
      let good : FineLive one.1 = all_at FineLive (document l s).live one.0 one.1 fine.live one.2 in
      report_told s p fine real
      (part_reported l laws.reports (document l s) one.1.version p good.1
      (laws.each s.events one.0 one.1 events one.2) one.3 real)

  worker_of : (m : EditorMessage) (w : ℕ) → Fits m → called_for m ≡ Claims w → IsWorker w
  worker_of (asks.Claim v) w fits is = let same : v ≡ w = cc in subst IsWorker same fits
  worker_of (asks.Finish v) w fits is = absurd (cc)
  worker_of (asks.Update version items blobs) w fits is = absurd (cc)
  worker_of (asks.Snapshot version node edits) w fits is = absurd (cc)
  worker_of (asks.Cancel exec) w fits is = absurd (cc)
  worker_of (asks.RemoveVersions versions) w fits is = absurd (cc)
  worker_of (asks.Settle version) w fits is = absurd (cc)
  worker_of (asks.Protocol protocol) w fits is = absurd (cc)
  worker_of (asks.Theory node text) w fits is = absurd (cc)

  -- who a claim is told to is a worker
  pub due_worker : (h : List Heard) (w : ℕ) → AllByRecursion IsSound h → due l service h ≡ Claims w
      → IsWorker w
  due_worker [] w sound is = absurd (cc)
  due_worker (Claimed who p ∷ h) w sound is = absurd (cc)
  due_worker (Finished who p ∷ h) w sound is = absurd (cc)
  due_worker (Dropped who p ∷ h) w sound is = absurd (cc)
  due_worker (Ended ∷ h) w sound is = absurd (cc)
  due_worker (Message (Err reason) ∷ h) w sound is = absurd (cc)
  due_worker (Message (Ok m) ∷ h) w sound is = go (accepted l service (session l service h) m) is
    where
      go : (r : Result Session Refusal) → due_by r (called_for m) ≡ Claims w → IsWorker w
      go (Ok after) is = worker_of m w sound.0.0 is
      go (Err reason) is = absurd (cc)

  pub claim_readable : (p : Part) → IsId p.exec → (d : Due) → ((w : ℕ) → d ≡ Claims w → IsWorker w)
      → Readable (claim_told p d)
  claim_readable p id (Claims w) worker = (record { fits = (worker w refl, id); form = tt }, tt)
  claim_readable p id (Finishes w) worker = tt
  claim_readable p id Nothing worker = tt
