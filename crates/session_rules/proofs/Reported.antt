-- The reply of a finished part tells what checking from nothing gives.
use Rattle.std.proofs.Common.{sym, length, ◌≡◌, ℕ, suc, Bool, true, false, ◌||◌, List, [], ◌∷◌, ◌++◌, slice_get, Some, refl, ap, ap₂, subst, ◌∙◌}
use Rattle.std.proofs.lemmas.Bool.{false≢true, and_parts}
use Rattle.std.specs.Option.{option_map_or}
use Rattle.text_words.specs.Members.{has}
use Rattle.pide_base.specs.declared.part.Part.{Part}
use Rattle.pide_base.specs.declared.part.PartKind.TheVariants as kind
use Rattle.core_tables.specs.declared.versions.Live.{Live}
use Rattle.exec_rules.specs.declared.home.Input.TheVariants as input
use Rattle.exec_rules.specs.declared.version.Version.{Version}
use Rattle.language.specs.Lang.{Lang}
use Rattle.reply_messages.specs.declared.told.Told.TheVariants as tells
use Rattle.core_rules.specs.declared.event.Event.{Event}
use Rattle.core_rules.specs.declared.event.Event.TheVariants.{Update}
use Rattle.core_rules.specs.Assigned.{assigns, is_assigned}
use Rattle.core_rules.specs.Doc.{doc}
use Rattle.core_rules.specs.FromScratch.{AllFromScratch}
use Rattle.core_rules.specs.Legal.{IsLegal as IsLegalList}
use Rattle.core_rules.specs.Placed.{RowOf}
use Rattle.core_rules.specs.Ready.{is_part, is_wanted}
use Rattle.core_rules.specs.Scratch.{scratch_at}
use Rattle.core_rules.specs.Settings.{setting}
use Rattle.core_rules.proofs.KnownNamedRows.{row_place}
use Rattle.core_rules.proofs.KnownPlaces.{place_found}
use Rattle.core_rules.specs.Parts.{parts_of}
use Rattle.core_rules.specs.Standing.{held, is_done, is_finished}
use Rattle.session_rules.specs.declared.service.Service.{Service}
use Rattle.session_rules.specs.Heard.{Heard, Message, Claimed, Finished, Dropped, Ended}
use Rattle.session_rules.specs.History.{session}
use Rattle.session_rules.specs.Legal.{IsLegal}
use Rattle.session_rules.specs.Replies.{report_of}
use Rattle.session_rules.specs.Session.{Session, document}
use Rattle.session_rules.specs.Shown.{protocol_reports}
use Rattle.session_rules.specs.Reporting.{EachFinished, IsAssignedAt, ReportsSo, TellsHome, TellsScratch, home_version}
use Rattle.session_rules.proofs.MadeParts.{MadeLaws, made_tip}
use Rattle.session_rules.proofs.OpenParts.{opens, part_then}
use Rattle.session_rules.proofs.HeldParts.{held_part}
use Rattle.session_rules.proofs.KnownLiveVersions.{each_live}
use Rattle.session_rules.proofs.Worked.{executes, in_row, legal_before, reported, still, works}

module _ {S : Type 0} (l : Lang S) (scratch : (h : List Event) (k : ℕ) (one : Live Version) → IsLegalList l h → slice_get (doc l h).live k ≡ Some one → AllFromScratch l (doc l h) one.version)
    (found : (h : List Event) (e : ℕ) → IsLegalList l h → assigns (doc l h).tip e ≡ true → RowOf (doc l h).tip e) where
  -- a version that was live at some moment
  tells_then : (s : Session) (legal : IsLegalList l s.events) (more before : List Event) (k : ℕ) (one : Live Version) (name : List ℕ) (i : ℕ) (part : Part)
      → s.events ≡ more ++ before → slice_get (doc l before).live k ≡ Some one → IsAssignedAt one.version name i part
      → TellsScratch l s one.version name i part (report_of l s part ∷ [])
  tells_then s legal more before k one name i part events live at =
      let v = one.version in
      let r = row_place v name i at.row at.stands in
      let n = place_found v.nodes name r.place r.placed in
      let f = scratch before k one (legal_before l more before (subst (IsLegalList l) events legal)) live r.place i n.pair at.row n.stands r.at in
      let w = works l (doc l before) v r.place n.pair i at.row f part at.has_it in
      let now : setting l (document l s).homes part.exec ≡ Some w.on =
      ap (λ h. setting l (doc l h).homes part.exec) events ∙ still l more before part.exec w.on w.is in
      record {
        works_on = f.works_on;
        scratch = ap (λ o. slice_get (option_map_or (scratch_at l v.nodes v.blobs) o []) i) r.placed ∙ f.scratch;
        told = ap (λ t. t ∷ []) (reported l s part w.on now ∙ ap₂ (λ source reports. tells.Report part (protocol_reports s.protocol source reports)) w.source w.reports);
      }

  live_one : (e : ℕ) (live : List (Live Version)) → is_assigned live e ≡ true → (k : ℕ) × (one : Live Version) × (slice_get live k ≡ Some one) × (assigns one.version e ≡ true)
  live_one e [] is = absurd (false≢true is)
  live_one e (one ∷ live) is = go (assigns one.version e) refl is (live_one e live)
    where
      go : (b : Bool) → assigns one.version e ≡ b → (b || is_assigned live e) ≡ true
          → (is_assigned live e ≡ true → (k : ℕ) × (x : Live Version) × (slice_get live k ≡ Some x) × (assigns x.version e ≡ true))
          → (k : ℕ) × (x : Live Version) × (slice_get (one ∷ live) k ≡ Some x) × (assigns x.version e ≡ true)
      go true here is rest = (0, one, refl, here)
      go false here is rest = let r = rest is in (suc r.0, r.1, r.2, r.3)

  rows_live : (h : List Event) → IsLegalList l h → (k : ℕ) (one : Live Version) → slice_get (doc l h).live k ≡ Some one → (e : ℕ) → assigns one.version e ≡ true → RowOf one.version e
  rows_live h legal k one at e = each_live l (λ v. assigns v e ≡ true → RowOf v e) (λ k id nodes blobs may. found (Update id nodes blobs ∷ k) e may) h legal k one at

  -- the row of a part has it as it is
  its_row : (h : List Event) → IsLegalList l h → (k : ℕ) (one : Live Version) → slice_get (doc l h).live k ≡ Some one → (part : Part) → is_part l (doc l h).homes part ≡ true
      → (r : RowOf one.version part.exec) → IsAssignedAt one.version r.name r.place part
  its_row h legal k one at part is r =
      let v = one.version in
      let p = row_place v r.name r.place r.row r.stands in
      let n = place_found v.nodes r.name p.place p.placed in
      let f = scratch h k one legal at p.place r.place n.pair r.row n.stands p.at in
      record { row = r.row; stands = r.stands; has_it = executes l (doc l h) v p.place r.place n.pair r.row f part is (in_row l r.row part.exec r.has_it) }

  last_place : {A : Type 0} (xs : List A) (x : A) → slice_get (xs ++ x ∷ []) (length xs) ≡ Some x
  last_place [] x = refl
  last_place (y ∷ xs) x = last_place xs x

  module _ (laws : MadeLaws l) where
    -- the version and place where the part's execution was made
    tells_home : (s : Session) → IsLegalList l s.events → (who : ℕ) (part : Part) → held s.events who ≡ Some part → is_wanted (document l s) part.exec ≡ true
        → TellsHome l s part (report_of l s part ∷ [])
    tells_home s legal who part holds wanted =
        let is = held_part l s.events legal who part holds in
        let going : is_finished s.events part ≡ false = ap is_done ((laws.told s.events who part legal).0 holds) in
        let m = made_tip l laws.keeps found laws.within s.events part.exec legal
        (laws.tip s.events part.exec legal wanted (opens l s.events part (parts_of l (document l s).homes part.exec) going is)) in
        let then : List Event = Update m.0.id m.0.nodes m.0.blobs ∷ m.0.before in
        let legal_then = legal_before l m.0.since then (subst (IsLegalList l) m.0.happened legal) in
        let one : Live Version = record { id = m.0.id; version = home_version l m.0 } in
        let live = last_place (doc l m.0.before).live one in
        let is_then = sym (part_then l m.0.since then part m.0.was_then) ∙ ap (λ h. is_part l (doc l h).homes part) (sym m.0.happened) ∙ is in
        let row = found then part.exec legal_then m.1 in
        let assigned = its_row then legal_then (length (doc l m.0.before).live) one live part is_then row in
        record {
          made = m.0;
          name = row.name;
          place = row.place;
          assigned = assigned;
          told = tells_then s legal m.0.since then (length (doc l m.0.before).live) one row.name row.place part m.0.happened live assigned;
        }

    -- each finished part
    pub reports : (service : Service) → ((h : List Heard) → IsLegal l service h → IsLegalList l (session l service h).events)
        → (h : List Heard) → IsLegal l service h → EachFinished (ReportsSo l service) h
    reports service events [] legal = tt
    reports service events (Message read ∷ h) legal = reports service events h legal.0
    reports service events (Claimed who part ∷ h) legal = reports service events h legal.0
    reports service events (Dropped who part ∷ h) legal = reports service events h legal.0
    reports service events (Ended ∷ h) legal = reports service events h legal.0
    reports service events (Finished who part ∷ h) legal =
        let s = session l service h in
        let is_legal = events h legal.0 in
        let is = held_part l s.events is_legal who part legal.1.0.0 in
        let wanted = (and_parts (is_assigned (document l s).live part.exec) _ legal.1.0.1).0 in
        let one = live_one part.exec (document l s).live wanted in
        let row = rows_live s.events is_legal one.0 one.1 one.2 part.exec one.3 in (
          reports service events h legal.0,
          record {
            home = tells_home s is_legal who part legal.1.0.0 legal.1.0.1;
            each = λ more before k one name i. tells_then s is_legal more before k one name i part;
            live = (one.0, one.1, row.name, row.place, one.2, its_row s.events is_legal one.0 one.1 one.2 part is row);
          },
        )
