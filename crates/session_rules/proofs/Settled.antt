-- Once the second of two updates is settled, all that it assigns is finished.
use Rattle.std.proofs.Common.{◌≡◌, ℕ, true, false, List, ◌∷◌, Option, Some, Result, Ok, Err, sym, ap, subst, ◌∙◌}
use Rattle.std.specs.Prelude.{slice_get, ◌↔◌, flat_map}
use Rattle.std.specs.List.{list_all}
use Rattle.text_words.specs.Members.{has}
use Rattle.pide_base.specs.declared.part.Part.{Part}
use Rattle.core_tables.specs.declared.versions.Live.{Live}
use Rattle.core_tables.specs.Live.{version_of}
use Rattle.exec_rules.specs.declared.home.Home.{Home}
use Rattle.exec_rules.specs.declared.row.Row.{Row}
use Rattle.exec_rules.specs.declared.version.Version.{Version}
use Rattle.exec_rules.specs.Assigning.{entries_in, rows_in}
use Rattle.exec_rules.specs.Listed.{executions}
use Rattle.language.specs.Lang.{Lang}
use Rattle.message_values.specs.declared.editor_message.EditorMessage.TheVariants as asks
use Rattle.message_values.specs.declared.refusal.Refusal.{Refusal}
use Rattle.message_values.specs.declared.refusal.Refusal.TheVariants.{UnknownVersion}
use Rattle.message_values.specs.Asked.{or_refused}
use Rattle.buffer_laws.specs.buffer_rules_below.Trying.{◌>>=◌}
use Rattle.core_rules.specs.declared.event.Event.{Event}
use Rattle.core_rules.specs.declared.event.Event.TheVariants as event
use Rattle.core_rules.specs.Assigned.{assigns}
use Rattle.core_rules.specs.Doc.{doc}
use Rattle.core_rules.specs.Legal.{IsLegal as IsLegalList}
use Rattle.core_rules.specs.Numbered.{numbered}
use Rattle.core_rules.specs.Parts.{parts_of}
use Rattle.core_rules.specs.Settings.{Setting, setting}
use Rattle.core_rules.specs.Shown.{parts_shown, scratch_shown}
use Rattle.core_rules.specs.Sources.{HasHome}
use Rattle.core_rules.specs.Standing.{Held, held, is_open, standing}
use Rattle.core_rules.specs.Stuck.{is_settled}
use Rattle.session_rules.specs.declared.service.Service.TheVariants.{Workers}
use Rattle.session_rules.specs.Heard.{Heard, Message, Claimed, Finished, Dropped, Ended}
use Rattle.session_rules.specs.Session.{Session, answered, document}
use Rattle.session_rules.specs.History.{session}
use Rattle.session_rules.specs.Legal.{IsLegal, IsSettledIn, awaited_by}
use Rattle.session_rules.specs.Looking.{settles}
use Rattle.session_rules.specs.OneThread.{reads}
use Rattle.session_rules.proofs.KnownExact.{rows_have}
use Rattle.session_rules.proofs.KnownSeen.{commands_seen}
use Rattle.session_rules.proofs.KnownWaited.{live_at}
use Rattle.session_rules.specs.Reported.{part_reports, node_reports}
use Rattle.session_rules.specs.Updates.{Updates, all_read, updates_read}
use Rattle.session_rules.proofs.Sessions.{HasBoth}
use Rattle.session_rules.proofs.Kept.{IsWhole, kept}
use Rattle.session_rules.proofs.Finished.{all_stay}
use Rattle.session_rules.proofs.Histories.{IsQuiet, after_message}
use Rattle.session_rules.proofs.Reached.{both_stays, with_both}
use Rattle.session_rules.proofs.Reports.{is_seen, of_commands}
use Rattle.session_rules.proofs.Unmarked.{closed}

-- what is known of lists of events
pub record EventLaws {S : Type 0} (l : Lang S) : Type 0 where
  pub legal : (count : ℕ) (h : List Heard) → IsLegal l (Workers count) h → IsLegalList l (session l (Workers count) h).events
  pub told : (h : List Event) (who : ℕ) (p : Part) → IsLegalList l h → (held h who ≡ Some p) ↔ (standing h p ≡ Held who)
  pub homed : (h : List Event) (k : ℕ) (one : Live Version) (e : ℕ) → IsLegalList l h
      → slice_get (doc l h).live k ≡ Some one → assigns one.version e ≡ true → HasHome l (doc l h) one.version e
  pub there : (v : Version) (name : List ℕ) (i e : ℕ) (row : Row) → slice_get (rows_in v name) i ≡ Some row
      → has (executions row) e ≡ true → assigns v e ≡ true
  pub shown : (h : List Event) (k : ℕ) (one : Live Version) (name : List ℕ) → IsLegalList l h
      → slice_get (doc l h).live k ≡ Some one → parts_shown l h (doc l h) one.version name ≡ scratch_shown l h one.version name

module _ {S : Type 0} (l : Lang S) (u : Updates) (laws : EventLaws l) (count : ℕ) where
  abbrev now : List Heard → Session
  now h = session l (Workers count) h

  abbrev IsDone : List Heard → Type 0
  IsDone h = HasBoth l u (now h) × IsWhole l u (now h)

  whole_stays : (e : Heard) (h : List Heard) → IsQuiet e → IsLegal l (Workers count) (e ∷ h) → IsWhole l u (now h) → IsWhole l u (now (e ∷ h))
  whole_stays (Message read) h quiet legal w = absurd (quiet)
  whole_stays (Claimed who part) h quiet legal w = λ version at e is. all_stay l laws.told (event.Claimed who part) (now h).events (laws.legal count (Claimed who part ∷ h) legal)
      (parts_of l (document l (now h)).homes e) (w version at e is)
  whole_stays (Finished who part) h quiet legal w = λ version at e is. all_stay l laws.told (event.Finished who part) (now h).events (laws.legal count (Finished who part ∷ h) legal)
      (parts_of l (document l (now h)).homes e) (w version at e is)
  whole_stays (Dropped who part) h quiet legal w = λ version at e is. all_stay l laws.told (event.Dropped who part) (now h).events (laws.legal count (Dropped who part ∷ h) legal)
      (parts_of l (document l (now h)).homes e) (w version at e is)
  whole_stays Ended h quiet legal w = λ version at e is. all_stay l laws.told event.Ended (now h).events (laws.legal count (Ended ∷ h) legal)
      (parts_of l (document l (now h)).homes e) (w version at e is)

  done_stays : (e : Heard) (h : List Heard) → IsQuiet e → IsLegal l (Workers count) (e ∷ h) → IsDone h → IsDone (e ∷ h)
  done_stays e h quiet legal done = (both_stays l u count e h quiet legal done.0, whole_stays e h quiet legal done.1)

  -- where the second is settled
  whole_here : (h : List Heard) → IsLegal l (Workers count) h → HasBoth l u (now h)
      → IsSettledIn l (now h) (awaited_by (settles l (Workers count) (now h) u.second)) → IsWhole l u (now h)
  whole_here h legal both settled version at e is =
      let found = live_at (document l (now h)).live u.second version at in
      let homed : (f : ℕ) → assigns version f ≡ true → HasHome l (document l (now h)) version f = λ f there.
      subst (λ v. HasHome l (document l (now h)) v f) found.1.2
      (laws.homed (now h).events found.0 found.1.0 f (laws.legal count h legal) found.1.1 (ap (λ v. assigns v f) found.1.2 ∙ there)) in
      let over : is_settled l (now h).events (document l (now h)) version ≡ true =
      subst (λ (o : Option Version). IsSettledIn l (now h) (awaited_by (or_refused UnknownVersion o >>= λ v. Ok v))) at settled in
      closed l (now h).events (document l (now h)) version homed (kept l u (now h) both version at) over e is

  abbrev SettledStays : Session → Result Session Refusal → Type 0
  SettledStays s r = (HasBoth l u s → HasBoth l u (answered s r)) × (IsWhole l u s → IsWhole l u (answered s r))

  settle_stays : (s : Session) (o : Result Version Refusal) → SettledStays s (o >>= λ v. Ok s)
  settle_stays s (Ok v) = (λ b. record { opened = b.opened; doc_is = b.doc_is }, λ w. w)
  settle_stays s (Err r) = (λ b. record { opened = b.opened; doc_is = b.doc_is }, λ w. w)

  pub all_done : (h : List Heard) → IsLegal l (Workers count) h → reads h ≡ all_read u → IsDone h
  all_done = after_message l (Workers count) IsDone done_stays (Ok (asks.Settle u.second)) (updates_read u) begins
    where
      begins : (h : List Heard) → IsLegal l (Workers count) (Message (Ok (asks.Settle u.second)) ∷ h) → reads h ≡ updates_read u
          → IsDone (Message (Ok (asks.Settle u.second)) ∷ h)
      begins h legal is =
          let both = with_both l u count h legal.0 is in
          let on = settle_stays (now h) (settles l (Workers count) (now h) u.second) in
          (on.0 both, on.1 (whole_here h legal.0 both legal.1.2))

  -- all reports are shown
  pub reported : (h : List Heard) → IsLegal l (Workers count) h → reads h ≡ all_read u → (version : Version) (name : List ℕ)
      → version_of (document l (now h)).live u.second ≡ Some version
      → flat_map part_reports (parts_shown l (now h).events (document l (now h)) version name) ≡ node_reports l version name
  reported h legal is version name at =
      let done = all_done h legal is in
      let events = laws.legal count h legal in
      let found = live_at (document l (now h)).live u.second version at in
      let homes = (document l (now h)).homes in
      let same : parts_shown l (now h).events (document l (now h)) version name ≡ scratch_shown l (now h).events version name =
      subst (λ v. parts_shown l (now h).events (document l (now h)) v name ≡ scratch_shown l (now h).events v name) found.1.2
      (laws.shown (now h).events found.0 found.1.0 name events found.1.1) in
      let seen = commands_seen l (now h).events homes (entries_in version name) (rows_in version name)
      (λ e there x numbered_is. whole e (assigned e there) x numbered_is) in
      ap (flat_map part_reports) same ∙ of_commands l (now h).events (entries_in version name) (rows_in version name) _
      (sym (ap (list_all is_seen) same) ∙ seen)
    where
      assigned : (e : ℕ) → has (flat_map executions (rows_in version name)) e ≡ true → assigns version e ≡ true
      assigned e there =
          let row = rows_have (rows_in version name) e there in laws.there version name row.0 e row.1.0 row.1.1 row.1.2

      whole : (e : ℕ) → assigns version e ≡ true → (x : Home) → numbered (document l (now h)).homes e ≡ Some x
          → ((s : Setting S) × (setting l (document l (now h)).homes e ≡ Some s)) × (is_open l (now h).events (document l (now h)).homes e ≡ false)
      whole e is_assigned x at_home =
          let found = live_at (document l (now h)).live u.second version at in
          let home = laws.homed (now h).events found.0 found.1.0 e (laws.legal count h legal) found.1.1 (ap (λ v. assigns v e) found.1.2 ∙ is_assigned) in
          ((home.works_on, home.setting_is), (all_done h legal is).1 version at e is_assigned)
