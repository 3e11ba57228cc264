-- What checking versions from nothing reports fits.
use Rattle.std.proofs.Common.{◌≡◌, ◌⊎◌, inl, inr, ℕ, ◌≤◌, true, List, [], ◌∷◌, length, Option, Some, None, ap, sym, ◌∙◌, arith}
use Rattle.std.proofs.lemmas.Bool.{eqb-true, or_cases}
use Rattle.std.specs.Prelude.{slice_get, ◌==◌}
use Rattle.std.specs.List.{AllByRecursion}
use Rattle.text_words.specs.Members.{has}
use Rattle.text_words.proofs.KnownLists.{each-placed}
use Rattle.pide_base.specs.declared.part.Part.{Part}
use Rattle.pide_base.specs.Limits.{most_scalars}
use Rattle.report_markup.specs.declared.report.Report.{Report}
use Rattle.doc_nodes.specs.declared.node.Node.{Node}
use Rattle.doc_nodes.specs.Imports.{NodeList}
use Rattle.exec_rules.specs.declared.home.Home.{Home}
use Rattle.exec_rules.specs.declared.home.Input.TheVariants as input
use Rattle.exec_rules.specs.declared.row.Row.{Row}
use Rattle.exec_rules.specs.declared.version.Version.{Version}
use Rattle.exec_rules.specs.Homes.{home}
use Rattle.exec_rules.specs.Kept.{BlobList}
use Rattle.exec_rules.specs.Listed.{executions, print_list}
use Rattle.exec_rules.proofs.KnownListed.{in_print}
use Rattle.exec_rules.proofs.KnownThere.{all_at}
use Rattle.language.specs.Lang.{Lang}
use Rattle.language.specs.Laws as laws
use Rattle.core_rules.specs.Assigned.{assigns}
use Rattle.core_rules.specs.Doc.{Doc}
use Rattle.core_rules.specs.FromScratch.{AllFromScratch, IsFromScratch, PrintIs, assigned_to, head_in, input_at}
use Rattle.core_rules.specs.Numbered.{numbered}
use Rattle.core_rules.specs.Parts.{reports_of}
use Rattle.core_rules.specs.Placed.{RowOf}
use Rattle.core_rules.specs.Ready.{is_part}
use Rattle.core_rules.specs.Scratch.{scratch_at}
use Rattle.core_rules.specs.Settings.{Setting}
use Rattle.core_rules.specs.Updates.{source_in}
use Rattle.core_rules.proofs.KnownNamedRows.{found_row, row_place}
use Rattle.core_rules.proofs.KnownPlaces.{place_found}
use Rattle.reply_messages.specs.Fits.{FitsReport, IsWide}
use Rattle.editor_laws.specs.Headed.{AreHeaded}
use Rattle.editor_laws.proofs.KnownReported.{row_reports}
use Rattle.editor_laws.proofs.FineDocs.{FineVersion}
use Rattle.editor_laws.proofs.FittingReports.{AllFit, Fitting}
use Rattle.editor_laws.proofs.ScratchSizes.{scratch_short, source_most}
use Rattle.editor_laws.proofs.ShownParts.{SettingFits}

-- what a language must keep so that replies can tell its reports
pub record ReportLaws {S : Type 0} (l : Lang S) : Type 0 where
  pub lie : (source : List ℕ) (blob : Option (List ℕ)) (state : S)
      → AllByRecursion (laws.LiesIn source) (laws.reports_of l source blob state)
  pub fits : (nodes : NodeList) (blobs : BlobList) (p i : ℕ) (s : Setting S) → AreHeaded nodes
      → slice_get (scratch_at l nodes blobs p) i ≡ Some s
      → IsWide (length s.source) → AllByRecursion FitsReport
      (laws.reports_of l s.source s.blob s.state)

lie_fit : (source : List ℕ) (m : ℕ) (rs : List Report) → length source ≤ m
    → AllByRecursion (laws.LiesIn source) rs → AllByRecursion FitsReport rs → AllFit m rs
lie_fit source m [] le lie fit = tt
lie_fit source m (r ∷ rs) le lie fit = (
  (
    omega (arith, lie.0.0, lie.0.1.1, le),
    omega (arith, lie.0.1.1, le),
    fit.0.properties,
    fit.0.text,
  ),
  lie_fit source m rs le lie.1 fit.1,
)

module _ {S : Type 0} (l : Lang S) (told : ReportLaws l) where
  pub settings_fit : (v : Version) (p : ℕ) → FineVersion v
      → AllByRecursion (SettingFits l most_scalars) (scratch_at l v.nodes v.blobs p)
  settings_fit v p fine = each-placed (SettingFits l most_scalars) (scratch_at l v.nodes v.blobs p) one
    where
      one : (i : ℕ) (s : Setting S) → slice_get (scratch_at l v.nodes v.blobs p) i ≡ Some s
          → SettingFits l most_scalars s
      one i s at =
          let short : length s.source ≤ most_scalars =
          all_at (λ (x : Setting S). length x.source ≤ most_scalars)
          (scratch_at l v.nodes v.blobs p) i s (scratch_short l most_scalars v.nodes v.blobs
          fine.short p) at in
          lie_fit s.source most_scalars (laws.reports_of l s.source s.blob s.state) short
          (told.lie s.source s.blob s.state)
          (told.fits v.nodes v.blobs p i s fine.headed at (omega (arith, short)))

  -- where an execution stands that a version assigns, and what a part of it reports
  pub record Reported (d : Doc) (part : Part) : Type 0 where
    pub home : Home
    pub homed : numbered d.homes part.exec ≡ Some home
    pub short : length home.source ≤ most_scalars
    pub reports : List Report
    pub are : reports_of l d.homes part ≡ Some reports
    pub fit : AllFit most_scalars reports

  home_short : (d : Doc) (v : Version) (p : ℕ) (pair : List ℕ × Node) (i : ℕ) (row : Row)
      (x : IsFromScratch l d v p pair i row) (e : ℕ)
      → length pair.1.text ≤ most_scalars → has (executions row) e ≡ true
      → (y : Home) × (numbered d.homes e ≡ Some y) × (length y.source ≤ most_scalars)
  home_short d v p pair i row x e short is = go (or_cases (e == row.evaluation)
      (has (print_list row.print) e) is)
    where
      most : length (source_in pair.1 x.command) ≤ most_scalars
      most = let le = source_most pair.1 x.command in omega (arith, le, short)

      printing : (o : Option ℕ) → o ≡ Some e → PrintIs l d o
          (home pair.1 v.blobs x.command) row.evaluation x.works_on
          → (y : Home) × (numbered d.homes e ≡ Some y) × (length y.source ≤ most_scalars)
      printing None same prints = absurd (cc)
      printing (Some q) same prints =
          let so : q ≡ e = cc in (
            home pair.1 v.blobs x.command (input.Print row.evaluation),
            ap (numbered d.homes) (sym so) ∙ prints.0,
            most,
          )

      go : ((e == row.evaluation) ≡ true) ⊎ (has (print_list row.print) e ≡ true)
          → (y : Home) × (numbered d.homes e ≡ Some y) × (length y.source ≤ most_scalars)
      go (inl same) = (
        home pair.1 v.blobs x.command (input_at (head_in v.nodes p pair (assigned_to v p).key)
            (assigned_to v p).rows i),
        ap (numbered d.homes) (eqb-true e row.evaluation same) ∙ x.homed,
        most,
      )
      go (inr there) = printing row.print (in_print row.print e there) x.prints

  pub part_reported : (d : Doc) (v : Version) (part : Part) → FineVersion v → AllFromScratch l d v
      → assigns v part.exec ≡ true → is_part l d.homes part ≡ true
      → Reported d part
  part_reported d v part fine scratch assigned real =
      let r : RowOf v part.exec = found_row v part.exec fine.sorted fine.long assigned in
      let q = row_place v r.name r.place r.row r.stands in
      let f = place_found v.nodes r.name q.place q.placed in
      let x : IsFromScratch l d v q.place f.pair r.place r.row =
      scratch q.place r.place f.pair r.row f.stands q.at in
      let all : SettingFits l most_scalars x.works_on =
      all_at (SettingFits l most_scalars) (scratch_at l v.nodes v.blobs q.place) r.place x.works_on
      (settings_fit v q.place fine) x.scratch in
      let reports = row_reports l d v q.place f.pair r.place r.row x
      (Fitting most_scalars) all part r.has_it real in
      let y = home_short d v q.place f.pair r.place r.row x part.exec
      (all_at (λ (n : List ℕ × Node). length n.1.text ≤ most_scalars) v.nodes q.place f.pair
      fine.short f.stands) r.has_it in
      record {
        home = y.0;
        homed = y.1;
        short = y.2;
        reports = reports.0;
        are = reports.1;
        fit =
            reports.2;
      }
