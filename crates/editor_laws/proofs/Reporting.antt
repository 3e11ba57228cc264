-- A report of a finished part belongs to the command that has the part's execution.
use Rattle.std.proofs.Common.{◌≡◌, ◌⊎◌, inl, inr, ℕ, true, List, [], ◌∷◌, map, Option, Some, None, ap, sym, subst, ◌∙◌}
use Rattle.std.proofs.lemmas.Bool.{eqb-true, or_cases, and_from}
use Rattle.std.specs.Prelude.{slice_get, ◌==◌}
use Rattle.std.specs.Option.{option_map_or}
use Rattle.std.specs.List.{AllByRecursion, list_all}
use Rattle.text_words.specs.Members.{has}
use Rattle.pide_base.specs.declared.part.Part.{Part}
use Rattle.report_markup.specs.declared.report.Report.{Report}
use Rattle.doc_nodes.specs.declared.node.Entry.{Entry}
use Rattle.exec_rules.specs.declared.home.Home.{Home}
use Rattle.exec_rules.specs.declared.home.Input.{Input}
use Rattle.exec_rules.specs.declared.home.Input.TheVariants as input
use Rattle.exec_rules.specs.declared.row.Row.{Row}
use Rattle.exec_rules.specs.declared.version.Version.{Version}
use Rattle.exec_rules.specs.Assigning.{rows_in}
use Rattle.exec_rules.specs.Homes.{home}
use Rattle.exec_rules.specs.Listed.{executions, print_list}
use Rattle.exec_rules.proofs.KnownListed.{in_print}
use Rattle.language.specs.Lang.{Lang}
use Rattle.language.specs.Laws as keeps
use Rattle.message_values.specs.declared.protocol.Protocol.{Protocol}
use Rattle.core_rules.specs.declared.event.Event.{Event}
use Rattle.core_rules.specs.Numbered.{numbered}
use Rattle.core_rules.specs.Parts.{reports_of}
use Rattle.core_rules.specs.Doc.{Doc}
use Rattle.core_rules.specs.FromScratch.{AllFromScratch, IsFromScratch, PrintIs, assigned_to, head_in, input_at}
use Rattle.core_rules.specs.Ready.{is_part}
use Rattle.core_rules.specs.Updates.{source_in}
use Rattle.symbol_markup.specs.Places.{StandsOnSymbols}
use Rattle.session_rules.specs.Shown.{protocol_reports}
use Rattle.mirror_rules.specs.Images.{Image}
use Rattle.mirror_rules.specs.Reports.{PartReport, belongs_to, finished_at, in_scalars, lies_in}
use Rattle.mirror_rules.specs.Rows.{executions_of, rows_of}
use Rattle.mirror_rules.specs.Telling.{IsTold}
use Rattle.editor_laws.proofs.Known.{ImageOf, Same}
use Rattle.editor_laws.proofs.ReportLaws.{Laws}
use Rattle.editor_laws.proofs.PartFacts.{PartFacts, row_facts}
use Rattle.editor_laws.proofs.HomeSources.{setting_source}
use Rattle.editor_laws.proofs.Spots.{Spot, has_at}
use Rattle.editor_laws.proofs.ToldRanges.{IsGood, told_back, told_lie}

both_good : (text : List ℕ) (rs : List Report) → AllByRecursion (keeps.LiesIn text) rs
    → AllByRecursion (λ r. StandsOnSymbols text r.range) rs → AllByRecursion (IsGood text) rs
both_good text [] lie stand = tt
both_good text (r ∷ rs) lie stand = (record { lies = lie.0; stands = stand.0 }, both_good text rs lie.1 stand.1)

-- the source and the reports of a part, as a reply tells them
abbrev pub source_of : List Home → Part → List ℕ
source_of homes part = option_map_or (λ (x : Home). x.source) (numbered homes part.exec) []

abbrev pub reports_told : {S : Type 0} → Lang S → List Home → Part → List Report
reports_told l homes part = option_map_or (λ (rs : List Report). rs) (reports_of l homes part) []

module _ {S : Type 0} (l : Lang S) (laws : Laws) (told : IsTold l) (h : List Event) (d : Doc) (v : Version) (im : Image)
    (is : ImageOf l h d.homes v im) (scratch : AllFromScratch l d v) (part : Part) (real : is_part l d.homes part ≡ true) (protocol : Protocol) where
  abbrev pub tell : PartReport
  tell = record {
    protocol = protocol;
    part = part;
    reports = protocol_reports protocol (source_of d.homes part) (reports_told l d.homes part);
  }

  module _ (name : List ℕ) (i : ℕ) (e : Entry) (row : Row) (s : Spot v name i e row) (among : has (executions row) part.exec ≡ true) where
    x : IsFromScratch l d v s.p s.pair i row
    x = scratch s.p i s.pair row s.stands s.at

    entry_is : x.command ≡ e
    entry_is = one (slice_get s.pair.1.entries i) x.stands s.entry
      where
        one : (o : Option Entry) → o ≡ Some x.command → o ≡ Some e → x.command ≡ e
        one o a b = cc

    abbrev text : List ℕ
    text = source_in s.pair.1 e

    homed : (i : Input) × (numbered d.homes part.exec ≡ Some (home s.pair.1 v.blobs x.command i))
    homed = go (or_cases (part.exec == row.evaluation) (has (print_list row.print) part.exec) among)
      where
        printing : (o : Option ℕ) → o ≡ Some part.exec → PrintIs l d o (home s.pair.1 v.blobs x.command) row.evaluation x.works_on
            → (i : Input) × (numbered d.homes part.exec ≡ Some (home s.pair.1 v.blobs x.command i))
        printing None same prints = absurd (cc)
        printing (Some q) same prints =
            let at : q ≡ part.exec = cc in (input.Print row.evaluation, ap (numbered d.homes) (sym at) ∙ prints.0)

        go : ((part.exec == row.evaluation) ≡ true) ⊎ (has (print_list row.print) part.exec ≡ true)
            → (i : Input) × (numbered d.homes part.exec ≡ Some (home s.pair.1 v.blobs x.command i))
        go (inl same) = (
          input_at (head_in v.nodes s.p s.pair (assigned_to v s.p).key) (assigned_to v s.p).rows i,
          ap (numbered d.homes) (eqb-true part.exec row.evaluation same) ∙ x.homed,
        )
        go (inr printed) = printing row.print (in_print row.print part.exec printed) x.prints

    source_is : source_of d.homes part ≡ text
    source_is = ap (λ o. option_map_or (λ (y : Home). y.source) o []) homed.1 ∙ ap (source_in s.pair.1) entry_is

    works_is : x.works_on.source ≡ text
    works_is = setting_source l d.homes row.evaluation _ x.works_on x.homed x.kept ∙ ap (source_in s.pair.1) entry_is

    all_good : AllByRecursion (IsGood text) (keeps.reports_of l x.works_on.source x.works_on.blob x.works_on.state)
    all_good = subst (λ t. AllByRecursion (IsGood t) (keeps.reports_of l x.works_on.source x.works_on.blob x.works_on.state)) works_is
        (both_good x.works_on.source (keeps.reports_of l x.works_on.source x.works_on.blob x.works_on.state)
        (told.tidy.lie x.works_on.source x.works_on.blob x.works_on.state)
        (told.placed x.works_on.source x.works_on.blob x.works_on.state
        (λ empty. is.filled s.p i s.pair e s.stands s.entry (sym works_is ∙ empty))))

    pub facts : PartFacts l d.homes (IsGood text) part
    facts = row_facts l d v s.p s.pair i row x (IsGood text) all_good part among real

    reports_are : reports_told l d.homes part ≡ facts.reports
    reports_are = ap (λ o. option_map_or (λ (rs : List Report). rs) o []) facts.are

    told_is : tell.reports ≡ protocol_reports protocol text facts.reports
    told_is = ap (λ t. protocol_reports protocol t (reports_told l d.homes part)) source_is ∙ ap (protocol_reports protocol text) reports_are

    -- the report belongs to the command
    pub belongs : slice_get (rows_in v name) i ≡ Some row → belongs_to tell s.pair.1 (rows_of im s.pair.0) e ≡ true
    belongs at = and_from (has (executions_of (rows_of im s.pair.0) e.command) part.exec) (list_all (λ r. lies_in protocol text r.range) tell.reports)
        (has_at l h d.homes v im is name i e row part.exec s at among)
        (ap (list_all (λ r. lies_in protocol text r.range)) told_is ∙ told_lie laws text protocol facts.reports facts.all)

    -- and what it tells is what the part reported
    pub back : Same (finished_at tell s.pair.1 e).reports facts.reports
    back = subst (λ rs. Same (map (in_scalars protocol text) rs) facts.reports) (sym told_is) (told_back laws text protocol facts.reports facts.all)
