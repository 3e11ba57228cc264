-- A report belongs to a command of each live version that has its execution.
use Rattle.std.proofs.Common.{◌≡◌, ◌⊎◌, inl, inr, ℕ, zero, suc, true, List, [], ◌∷◌, map, Some, refl, ap, ◌∙◌}
use Rattle.std.proofs.lemmas.Bool.{or_cases, or_left, or_right}
use Rattle.std.specs.Prelude.{slice_get}
use Rattle.std.specs.List.{list_any}
use Rattle.pide_base.specs.declared.part.Part.{Part}
use Rattle.doc_nodes.specs.declared.node.Node.{Node}
use Rattle.core_tables.specs.declared.versions.Live.{Live}
use Rattle.exec_rules.specs.declared.version.Version.{Version}
use Rattle.language.specs.Lang.{Lang}
use Rattle.message_values.specs.declared.protocol.Protocol.{Protocol}
use Rattle.core_rules.specs.declared.event.Event.{Event}
use Rattle.core_rules.specs.declared.event.Event.TheVariants as event
use Rattle.core_rules.specs.Assigned.{assigns}
use Rattle.core_rules.specs.Doc.{Doc}
use Rattle.core_rules.specs.FromScratch.{AllFromScratch, IsFromScratch}
use Rattle.core_rules.specs.Placed.{RowOf}
use Rattle.core_rules.specs.Ready.{is_part}
use Rattle.core_rules.proofs.KnownNamedRows.{found_row, row_place}
use Rattle.core_rules.proofs.KnownPlaces.{place_found}
use Rattle.session_rules.specs.Shown.{protocol_reports}
use Rattle.mirror_rules.specs.Images.{Image}
use Rattle.mirror_rules.specs.Replies.{live_with}
use Rattle.mirror_rules.specs.Reports.{PartReport, belongs_in, belongs_to}
use Rattle.mirror_rules.specs.Rows.{rows_of}
use Rattle.mirror_rules.specs.Telling.{IsTold}
use Rattle.editor_laws.proofs.Finishing.{finished_image}
use Rattle.editor_laws.proofs.Known.{ImageOf}
use Rattle.editor_laws.proofs.ReportLaws.{Laws}
use Rattle.text_words.proofs.KnownFinds.{any_at}
use Rattle.editor_laws.proofs.Mirrors.{AllLive}
use Rattle.editor_laws.proofs.Reporting.{belongs, reports_told, source_of}
use Rattle.editor_laws.proofs.Spots.{Spot}

module _ {S : Type 0} (l : Lang S) (laws : Laws) (told : IsTold l) (h : List Event) (d : Doc) (part : Part) (real : is_part l d.homes part ≡ true) (protocol : Protocol) where
  -- the reply
  abbrev pub report : PartReport
  report = record {
    protocol = protocol;
    part = part;
    reports = protocol_reports protocol (source_of d.homes part) (reports_told l d.homes part);
  }

  pub belongs_there : (v : Version) (im : Image) → ImageOf l h d.homes v im → AllFromScratch l d v → assigns v part.exec ≡ true
      → belongs_in report im ≡ true
  belongs_there v im is scratch assigned =
      let r : RowOf v part.exec = found_row v part.exec is.sorted is.long assigned in
      let q = row_place v r.name r.place r.row r.stands in
      let f = place_found v.nodes r.name q.place q.placed in
      let x : IsFromScratch l d v q.place f.pair r.place r.row = scratch q.place r.place f.pair r.row f.stands q.at in
      let s : Spot v r.name r.place x.command r.row = record {
        p = q.place;
        pair = f.pair;
        stands = f.stands;
        named = f.named;
        entry = x.stands;
        at = q.at;
      } in
      any_at (λ (pair : List ℕ × Node). list_any (belongs_to report pair.1 (rows_of im pair.0)) pair.1.entries) im.nodes q.place f.pair
      (ap (λ ns. slice_get ns q.place) is.nodes ∙ f.stands)
      (any_at (belongs_to report f.pair.1 (rows_of im f.pair.0)) f.pair.1.entries r.place x.command x.stands
      (belongs l laws told h d v im is scratch part real protocol r.name r.place x.command r.row s r.has_it r.stands))

  -- so in one of the live versions
  pub belongs_live : (vs : List (Live Version)) (ims : List (Live Image)) → AllLive l h d.homes vs ims
      → ((k : ℕ) (one : Live Version) → slice_get vs k ≡ Some one → AllFromScratch l d one.version)
      → list_any (λ one. assigns one.version part.exec) vs ≡ true → list_any (λ one. belongs_in report one.version) ims ≡ true
  belongs_live [] ims all scratch assigned = absurd (cc)
  belongs_live (v ∷ vs) [] all scratch assigned = absurd all
  belongs_live (v ∷ vs) (im ∷ ims) all scratch assigned =
      go (or_cases (assigns v.version part.exec) (list_any (λ one. assigns one.version part.exec) vs) assigned)
      (belongs_live vs ims all.2 (λ k. scratch (suc k)))
    where
      go : (assigns v.version part.exec ≡ true) ⊎ (list_any (λ one. assigns one.version part.exec) vs ≡ true)
          → (list_any (λ one. assigns one.version part.exec) vs ≡ true → list_any (λ one. belongs_in report one.version) ims ≡ true)
          → list_any (λ one. belongs_in report one.version) (im ∷ ims) ≡ true
      go (inl here) rest = or_left (belongs_in report im.version) (list_any (λ one. belongs_in report one.version) ims)
          (belongs_there v.version im.version all.1 (scratch zero v refl) here)
      go (inr more) rest = or_right (belongs_in report im.version) (list_any (λ one. belongs_in report one.version) ims) (rest more)

  -- all live versions have it finished
  pub live_finished : (who : ℕ) (vs : List (Live Version)) (ims : List (Live Image)) → AllLive l h d.homes vs ims
      → ((k : ℕ) (one : Live Version) → slice_get vs k ≡ Some one → AllFromScratch l d one.version)
      → AllLive l (event.Finished who part ∷ h) d.homes vs (map (live_with report) ims)
  live_finished who [] [] all scratch = tt
  live_finished who [] (im ∷ ims) all scratch = absurd all
  live_finished who (v ∷ vs) [] all scratch = absurd all
  live_finished who (v ∷ vs) (im ∷ ims) all scratch = (
    all.0,
    finished_image l laws told h d v.version im.version all.1 (scratch zero v refl) who part real protocol,
    live_finished who vs ims all.2 (λ k. scratch (suc k)),
  )
