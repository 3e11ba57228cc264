-- What is known of histories, and of the document after one.
use Rattle.std.proofs.Common.{◌≡◌, ℕ, ◌+◌, ◌≤◌, true, List, length, Some}
use Rattle.std.specs.Prelude.{slice_get}
use Rattle.std.specs.List.{AllByRecursion}
use Rattle.text_words.specs.Members.{has}
use Rattle.pide_base.specs.Ids.{IsId}
use Rattle.pide_base.specs.declared.part.Part.{Part}
use Rattle.symbol_markup.specs.Places.{symbol_place}
use Rattle.core_tables.specs.declared.versions.Live.{Live}
use Rattle.exec_rules.specs.declared.row.Row.{Row}
use Rattle.exec_rules.specs.declared.version.Version.{Version}
use Rattle.exec_rules.specs.Assigning.{rows_in}
use Rattle.exec_rules.specs.Listed.{executions}
use Rattle.language.specs.Lang.{Lang}
use Rattle.buffer_laws.specs.Fitting.{Agrees}
use Rattle.core_rules.specs.declared.event.Event.{Event}
use Rattle.core_rules.specs.Assigned.{assigns}
use Rattle.core_rules.specs.Doc.{doc}
use Rattle.core_rules.specs.FromScratch.{AllFromScratch}
use Rattle.core_rules.specs.Legal.{IsLegal as IsLegalList}
use Rattle.core_rules.specs.Ready.{is_part}
use Rattle.core_rules.specs.Sources.{HasHome}
use Rattle.reply_messages.specs.FoundReplies.{IsReply}
use Rattle.reply_messages.specs.declared.told.Told.{Told}
use Rattle.session_rules.specs.declared.service.Service.{Service}
use Rattle.session_rules.specs.Heard.{Heard}
use Rattle.session_rules.specs.Session.{Session, document}
use Rattle.session_rules.specs.History.{session}
use Rattle.session_rules.specs.Legal.{IsLegal}
use Rattle.editor_laws.proofs.KnownReported.{made_part}
use Rattle.editor_laws.proofs.FineDocs.{FineDoc, NumbersLaw, doc_fine, made_id}
use Rattle.editor_laws.proofs.FineEvents.{NodeLaws}
use Rattle.editor_laws.proofs.FineSessions.{session_fine}
use Rattle.editor_laws.proofs.FittingSettings.{ReportLaws}
use Rattle.editor_laws.proofs.ReadCalls.{IsSound}

-- the laws on histories and documents
pub record HistoryLaws {S : Type 0} (l : Lang S) : Type 0 where
  pub legal : (service : Service) (h : List Heard) → IsLegal l service h
      → IsLegalList l (session l service h).events
  pub agree : (service : Service) (h : List Heard) → IsLegal l service h
      → Agrees (session l service h).buffer (document l (session l service h))
  pub each : (h : List Event) (k : ℕ) (one : Live Version) → IsLegalList l h
      → slice_get (doc l h).live k ≡ Some one
      → AllFromScratch l (doc l h) one.version
  pub tip : (h : List Event) (e : ℕ) → IsLegalList l h → assigns (doc l h).tip e ≡ true
      → HasHome l (doc l h) (doc l h).tip e
  pub there : (v : Version) (name : List ℕ) (i e : ℕ) (row : Row)
      → slice_get (rows_in v name) i ≡ Some row → has (executions row) e ≡ true → assigns v e ≡ true
  pub within : (text : List ℕ) (place : ℕ) → symbol_place text place ≤ length text + 1
  pub numbers : NumbersLaw
  pub nodes : NodeLaws
  pub reports : ReportLaws l

-- each of the replies can be read
abbrev pub Readable : List Told → Type 0
Readable ts = AllByRecursion IsReply ts

-- a part that was made has an id
pub part_fits : {S : Type 0} (l : Lang S) (s : Session) (p : Part) → FineDoc (document l s)
    → is_part l (document l s).homes p ≡ true → IsId p.exec
part_fits l s p fine real =
    let made = made_part l (document l s).homes p real in
    made_id (document l s) p.exec made.0 fine made.1

module _ {S : Type 0} (l : Lang S) (laws : HistoryLaws l) (service : Service) where
  -- the document after a legal history
  pub fine_after : (h : List Heard) → IsLegal l service h → AllByRecursion IsSound h
      → FineDoc (document l (session l service h))
  fine_after h legal sound =
      doc_fine l laws.numbers (session l service h).events (laws.legal service h legal)
      (session_fine laws.nodes l service h sound).events
