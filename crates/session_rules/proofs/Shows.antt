-- What a snapshot shows.
use Rattle.std.proofs.Common.{◌≡◌, ℕ, List, [], ◌∷◌, Result, Ok, Some, true, sym, ap, subst, ◌∙◌}
use Rattle.std.specs.Prelude.{slice_get}
use Rattle.std.specs.List.{flat_map}
use Rattle.text_edits.specs.declared.edit.Edit.{Edit}
use Rattle.report_markup.specs.Sorting.{ordered_reports}
use Rattle.snapshots.specs.Converted.{left_by}
use Rattle.core_tables.specs.declared.versions.Live.{Live}
use Rattle.core_tables.specs.Live.{version_of}
use Rattle.exec_rules.specs.declared.version.Version.{Version}
use Rattle.language.specs.Lang.{Lang}
use Rattle.message_values.specs.declared.editor_message.EditorMessage.{EditorMessage}
use Rattle.message_values.specs.declared.editor_message.EditorMessage.TheVariants as asks
use Rattle.message_values.specs.declared.refusal.Refusal.{Refusal}
use Rattle.buffer_laws.specs.buffer_rules_below.Trying.{◌>>=◌}
use Rattle.reply_messages.specs.declared.told.Told.{Told}
use Rattle.reply_messages.specs.declared.told.Told.TheVariants as tells
use Rattle.text_words.specs.Members.{has}
use Rattle.exec_rules.specs.declared.row.Row.{Row}
use Rattle.exec_rules.specs.Assigning.{rows_in}
use Rattle.exec_rules.specs.Listed.{executions}
use Rattle.core_rules.specs.declared.event.Event.{Event}
use Rattle.core_rules.specs.Assigned.{assigns}
use Rattle.core_rules.specs.Sources.{HasHome}
use Rattle.core_rules.specs.Doc.{doc}
use Rattle.core_rules.specs.Legal.{IsLegal as IsLegalList}
use Rattle.core_rules.specs.Shown.{PartShown, parts_shown, pending, scratch_shown}
use Rattle.session_rules.specs.declared.service.Service.{Service}
use Rattle.session_rules.specs.Heard.{Heard}
use Rattle.session_rules.specs.Session.{Session, document}
use Rattle.session_rules.specs.Looking.{Looked, looked_at}
use Rattle.session_rules.specs.History.{session}
use Rattle.session_rules.specs.Shown.{placed_reports, protocol_reports}
use Rattle.session_rules.specs.Replies.{is_outdated, markup, or_refusal, told_to}
use Rattle.session_rules.specs.Promises.{are_all_shown, ExactSo, IsShown, ShowsSo}
use Rattle.session_rules.proofs.KnownExact.{all_seen}
use Rattle.session_rules.proofs.KnownLookedVersion.{seen_version}
use Rattle.session_rules.proofs.KnownWaited.{live_at}

module _ {S : Type 0} (l : Lang S) (core : (h : List Event) (k : ℕ) (one : Live Version) (name : List ℕ) → IsLegalList l h
    → slice_get (doc l h).live k ≡ Some one → parts_shown l h (doc l h) one.version name ≡ scratch_shown l h one.version name)
    (s : Session) (legal : IsLegalList l s.events) (id : ℕ) (name : List ℕ) (edits : List Edit) (looked : Looked)
    (seen : looked_at l s id name edits ≡ Ok looked) where
  same_parts : parts_shown l s.events (document l s) looked.version name ≡ scratch_shown l s.events looked.version name
  same_parts =
      let at = live_at (document l s).live id looked.version (seen_version name edits (version_of (document l s).live id) looked seen) in
      subst (λ (v : Version). parts_shown l s.events (document l s) v name ≡ scratch_shown l s.events v name) at.1.2 (core s.events at.0 at.1.0 name legal at.1.1)

  tells_markup : (service : Service) → told_to l service s (Ok (asks.Snapshot id name edits)) ≡ markup l s id name edits looked ∷ []
  tells_markup service = ap (λ (r : Result Looked Refusal). or_refusal ((r >>= λ x. Ok s) >>= λ after. r >>= λ x. Ok (markup l s id name edits x ∷ []))) seen

  abbrev with_parts : List PartShown → List Told
  with_parts parts = tells.Markup id name (protocol_reports s.protocol looked.text (ordered_reports (left_by edits (flat_map placed_reports parts))))
      (pending l s.events (document l s) looked.version name) (is_outdated edits) ∷ []

  pub is_shown : (service : Service) → IsShown l s id name edits looked (told_to l service s (Ok (asks.Snapshot id name edits)))
  is_shown service = record { scratch = same_parts; told = tells_markup service ∙ ap with_parts (sym same_parts) }

-- where nothing of a snapshot is pending
pub exact : {S : Type 0} (l : Lang S) → ((h : List Event) (k : ℕ) (one : Live Version) (e : ℕ) → IsLegalList l h
    → slice_get (doc l h).live k ≡ Some one → assigns one.version e ≡ true → HasHome l (doc l h) one.version e)
    → ((v : Version) (name : List ℕ) (i e : ℕ) (row : Row) → slice_get (rows_in v name) i ≡ Some row → has (executions row) e ≡ true → assigns v e ≡ true)
    → (service : Service) (h : List Heard) → IsLegalList l (session l service h).events → (read : Result EditorMessage Refusal) → ExactSo l service h read
exact l homed there service h legal read id name edits looked asks_it seen none =
    let s = session l service h in
    let at = live_at (document l s).live id looked.version (seen_version name edits (version_of (document l s).live id) looked seen) in
    subst (λ (v : Version). pending l s.events (document l s) v name ≡ [] → are_all_shown (parts_shown l s.events (document l s) v name) ≡ true)
    at.1.2 (all_seen l homed there s.events legal at.0 at.1.0 at.1.1 name) none

-- each snapshot
pub shows : {S : Type 0} (l : Lang S) → ((h : List Event) (k : ℕ) (one : Live Version) (name : List ℕ) → IsLegalList l h
    → slice_get (doc l h).live k ≡ Some one → parts_shown l h (doc l h) one.version name ≡ scratch_shown l h one.version name)
    → (service : Service) (h : List Heard) → IsLegalList l (session l service h).events → (read : Result EditorMessage Refusal) → ShowsSo l service h read
shows l core service h legal read id name edits looked asks_it seen =
    subst (λ (r : Result EditorMessage Refusal). IsShown l (session l service h) id name edits looked (told_to l service (session l service h) r)) (sym asks_it)
    (is_shown l core (session l service h) legal id name edits looked seen service)
