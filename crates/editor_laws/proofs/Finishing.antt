-- A version as the editor has it, once a part is finished and reported.
use Rattle.std.proofs.Common.{◌≡◌, ℕ, ◌<◌, Bool, true, false, List, ◌∷◌, length, Option, Some, None, refl, ap, sym, subst, ◌∙◌, arith}
use Rattle.std.specs.Prelude.{slice_get, if◌then◌else◌}
use Rattle.text_words.specs.Members.{has}
use Rattle.pide_base.specs.declared.part.Part.{Part}
use Rattle.report_markup.specs.declared.report.Report.{Report}
use Rattle.doc_nodes.specs.declared.node.Entry.{Entry}
use Rattle.exec_rules.specs.declared.row.Row.{Row}
use Rattle.exec_rules.specs.declared.version.Version.{Version}
use Rattle.exec_rules.specs.Assigning.{entries_in, rows_in}
use Rattle.exec_rules.specs.Listed.{executions}
use Rattle.language.specs.Lang.{Lang}
use Rattle.message_values.specs.declared.protocol.Protocol.{Protocol}
use Rattle.core_rules.specs.declared.event.Event.{Event}
use Rattle.core_rules.specs.declared.event.Event.TheVariants as event
use Rattle.core_rules.specs.Assigned.{command_ids}
use Rattle.core_rules.specs.Parts.{same_part, reports_of}
use Rattle.core_rules.specs.Standing.{standing, Done, is_done}
use Rattle.core_rules.specs.Doc.{Doc}
use Rattle.core_rules.specs.FromScratch.{AllFromScratch}
use Rattle.core_rules.specs.Ready.{is_part}
use Rattle.core_rules.specs.Updates.{AllDiffer}
use Rattle.core_rules.proofs.KnownNumbers.{numbered_within}
use Rattle.core_rules.proofs.KnownParts.{part_is}
use Rattle.mirror_rules.specs.Images.{Image}
use Rattle.mirror_rules.specs.Parts.{reports_at}
use Rattle.mirror_rules.specs.Reports.{with_report}
use Rattle.mirror_rules.specs.Telling.{IsTold}
use Rattle.editor_laws.proofs.HeldParts.{part_made}
use Rattle.editor_laws.proofs.Known.{ImageOf, SameTold, Same, reported}
use Rattle.editor_laws.proofs.ReportLaws.{Laws}
use Rattle.editor_laws.proofs.Reporting.{tell, facts, belongs, back}
use Rattle.editor_laws.proofs.Spots.{Spot, spot}
use Rattle.editor_laws.proofs.WithReport.{other_stays, own_known}

some_same : (a b : Option (List Report)) (x y : List Report) → a ≡ Some x → b ≡ Some y → Same x y → SameTold a b
some_same a b x y p q same = subst (λ o. SameTold o b) (sym p) (subst (λ o. SameTold (Some x) o) (sym q) same)

module _ {S : Type 0} (l : Lang S) (laws : Laws) (told : IsTold l) (h : List Event) (d : Doc) (v : Version) (im : Image)
    (is : ImageOf l h d.homes v im) (scratch : AllFromScratch l d v) (who : ℕ) (part : Part) (real : is_part l d.homes part ≡ true)
    (protocol : Protocol) where
  abbrev after : List Event
  after = event.Finished who part ∷ h

  -- other parts stand as they did
  other_reported : (p : Part) → same_part part p ≡ false → reported l after d.homes p ≡ reported l h d.homes p
  other_reported p other = ap (λ b. if is_done (if b then Done else standing h p) then reports_of l d.homes p else None) other

  own_reported : (p : Part) → same_part part p ≡ true → reported l after d.homes p ≡ reports_of l d.homes p
  own_reported p same = ap (λ b. if is_done (if b then Done else standing h p) then reports_of l d.homes p else None) same

  known_after : (name : List ℕ) (i : ℕ) (e : Entry) (row : Row) (p : Part) → slice_get (entries_in v name) i ≡ Some e
      → slice_get (rows_in v name) i ≡ Some row → has (executions row) p.exec ≡ true
      → SameTold (reports_at (with_report (tell l laws told h d v im is scratch part real protocol) im) e.command p) (reported l after d.homes p)
  known_after name i e row p here at among = go (same_part part p) refl
    where
      go : (b : Bool) → same_part part p ≡ b
          → SameTold (reports_at (with_report (tell l laws told h d v im is scratch part real protocol) im) e.command p) (reported l after d.homes p)
      go false other = subst (λ o. SameTold o (reported l after d.homes p))
          (sym (other_stays (tell l laws told h d v im is scratch part real protocol) im e.command p other))
          (subst (SameTold (reports_at im e.command p)) (sym (other_reported p other)) (is.known name i e row p here at among))
      go true same =
          let one : part ≡ p = part_is part p same in
          let s : Spot v name i e row = spot v is.sorted name i e row here at in
          let has_it : has (executions row) part.exec ≡ true = ap (λ (q : Part). has (executions row) q.exec) one ∙ among in
          some_same (reports_at (with_report (tell l laws told h d v im is scratch part real protocol) im) e.command p) (reported l after d.homes p) _ _
          (ap (reports_at (with_report (tell l laws told h d v im is scratch part real protocol) im) e.command) (sym one)
          ∙ own_known (tell l laws told h d v im is scratch part real protocol) im s.p i s.pair e
          (subst (λ ns. AllDiffer (command_ids ns)) (sym is.nodes) is.differ)
          (ap (λ ns. slice_get ns s.p) is.nodes ∙ s.stands) s.entry
          (belongs l laws told h d v im is scratch part real protocol name i e row s has_it at))
          (own_reported p same ∙ ap (reports_of l d.homes) (sym one) ∙ (facts l laws told h d v im is scratch part real protocol name i e row s has_it).are)
          (back l laws told h d v im is scratch part real protocol name i e row s has_it)

  unmade_after : (c : ℕ) (p : Part) → length d.homes < p.exec
      → reports_at (with_report (tell l laws told h d v im is scratch part real protocol) im) c p ≡ None
  unmade_after c p late = go (same_part part p) refl
    where
      go : (b : Bool) → same_part part p ≡ b → reports_at (with_report (tell l laws told h d v im is scratch part real protocol) im) c p ≡ None
      go false other = other_stays (tell l laws told h d v im is scratch part real protocol) im c p other ∙ is.unmade c p late
      go true same =
          let made = part_made l d.homes part real in
          let within = numbered_within d.homes part.exec made.0 made.1 in
          let e : part.exec ≡ p.exec = ap (λ (q : Part). q.exec) (part_is part p same) in
          absurd (omega (arith, within, late, e))

  -- the version stays as the editor has it
  pub finished_image : ImageOf l after d.homes v (with_report (tell l laws told h d v im is scratch part real protocol) im)
  finished_image = record {
    nodes = is.nodes;
    rows = is.rows;
    long = is.long;
    sorted = is.sorted;
    differ = is.differ;
    filled = is.filled;
    known = known_after;
    unmade = unmade_after;
    made = is.made;
  }
