-- What snapshots tell is what the document shows.
use Rattle.std.proofs.Common.{◌≡◌, ℕ, false, List, [], ◌∷◌, Some, Result, Ok, Err, refl, sym, ap, subst, ◌∙◌}
use Rattle.std.specs.List.{flat_map}
use Rattle.report_markup.specs.declared.report.Report.{Report}
use Rattle.report_markup.specs.Sorting.{ordered_reports}
use Rattle.snapshots.specs.Converted.{left_by}
use Rattle.core_tables.specs.Live.{version_of}
use Rattle.exec_rules.specs.declared.version.Version.{Version}
use Rattle.message_values.specs.declared.protocol.Protocol.TheVariants.{Scalars}
use Rattle.message_values.specs.declared.refusal.Refusal.{Refusal}
use Rattle.buffer_rules.specs.Trying.{◌>>=◌}
use Rattle.reply_messages.specs.declared.told.Told.TheVariants as tells
use Rattle.core_rules.specs.Shown.{pending, scratch_shown}
use Rattle.session_rules.specs.declared.service.Service.{Service}
use Rattle.session_rules.specs.Heard.{Heard}
use Rattle.session_rules.specs.History.{session}
use Rattle.session_rules.specs.Looking.{Looked, looked_at}
use Rattle.session_rules.specs.Replies.{markup, or_refusal}
use Rattle.session_rules.specs.Session.{Session, document}
use Rattle.session_rules.specs.Shown.{placed_reports, finished_reports, protocol_reports}
use Rattle.session_rules.proofs.KnownLookedVersion.{seen_version}
use Rattle.isar_rules.specs.Isar.{isar}
use Rattle.isar_rules.specs.Kept.{errors_in}
use Rattle.soundness_laws.specs.Seen.{HasNoPending, TellsNoError}
use Rattle.soundness_laws.proofs.KnownFine.{AreFine, fine, unordered, without_errors}

-- where no edits are pending, none is left out
unleft : (rs : List Report) → AreFine (left_by [] rs) → AreFine rs
unleft [] f = tt
unleft (r ∷ rs) f = (f.0, unleft rs f.1)

module _ (service : Service) (h : List Heard) (id : ℕ) (v : Version) (live : version_of (document isar (session isar service h)).live id ≡ Some v)
    (plain : (session isar service h).protocol ≡ Scalars) (name : List ℕ) (tells_none : TellsNoError service h id name) where
  abbrev s : Session
  s = session isar service h

  -- what is looked at
  record IsLooked (looked : Looked) : Type 0 where
    pub at : looked_at isar s id name [] ≡ Ok looked
    pub reply : markup isar s id name [] looked ≡ tells.Markup id name tells_none.reports [] false

  looked_by : (r : Result Looked Refusal) → looked_at isar s id name [] ≡ r
      → or_refusal ((r >>= λ x. Ok s) >>= λ after. r >>= λ x. Ok (markup isar s id name [] x ∷ []))
      ≡ tells.Markup id name tells_none.reports [] false ∷ [] → (looked : Looked) × IsLooked looked
  looked_by (Err reason) at e = absurd (cc)
  looked_by (Ok looked) at e = (looked, record { at = at; reply = cc })

  looked : (x : Looked) × IsLooked x
  looked = looked_by (looked_at isar s id name []) refl tells_none.reply

  version_is : looked.0.version ≡ v
  version_is =
      let seen : Some looked.0.version ≡ Some v =
      sym (seen_version name [] (version_of (document isar s).live id) looked.0 looked.1.at) ∙ live in cc

  pub none_told : HasNoPending s.events v name
  none_told =
      let whole = looked.1.reply in
      let none : pending isar s.events (document isar s) looked.0.version name ≡ [] = cc in
      subst (λ x. pending isar s.events (document isar s) x name ≡ []) version_is none

  pub clean_told : errors_in (flat_map placed_reports (scratch_shown isar s.events v name)) ≡ []
  clean_told =
      let whole = looked.1.reply in
      let reports : protocol_reports s.protocol looked.0.text (finished_reports isar s.events looked.0.version name []) ≡ tells_none.reports = cc in
      let scalars : finished_reports isar s.events looked.0.version name [] ≡ tells_none.reports =
      ap (λ p. protocol_reports p looked.0.text (finished_reports isar s.events looked.0.version name [])) (sym plain) ∙ reports in
      let there : finished_reports isar s.events v name [] ≡ tells_none.reports =
      subst (λ x. finished_reports isar s.events x name [] ≡ tells_none.reports) version_is
      scalars in
      let all : List Report = flat_map placed_reports (scratch_shown isar s.events v name) in
      without_errors all (unleft all (unordered (left_by [] all)
      (fine (ordered_reports (left_by [] all)) (ap errors_in there ∙ tells_none.clean))))
