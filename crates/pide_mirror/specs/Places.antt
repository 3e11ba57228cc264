-- The commands of a version that have an execution, each with what its parts reported (this
-- project's own).
use Rattle.std.specs.Prelude.{◌≡◌, ℕ, ◌==◌, Bool, true, if◌then◌else◌, List, map, slice_get, Option, Some, None}
use Rattle.std.specs.Option.{option_map}
use Rattle.std.specs.List.{AllByRecursion, list_all}
use Rattle.text_words.specs.Members.{has}
use Rattle.pide_base.specs.declared.part.PartKind.{PartKind}
use Rattle.pide_base.specs.declared.part.PartKind.TheVariants.{Eval, Fork, Print}
use Rattle.report_markup.specs.declared.report.Report.{Report}
use Rattle.doc_nodes.specs.declared.node.Entry.{Entry}
use Rattle.doc_nodes.specs.declared.node.Node.{Node}
use Rattle.doc_nodes.specs.Imports.{NodeList}
use Rattle.buffer_rules.specs.Cuts.{source}
use Rattle.mirror_rules.specs.Images.{FinishedPart, Image}
use Rattle.mirror_rules.specs.Parts.{reports_at}
use Rattle.mirror_rules.specs.Reports.{PartReport, lies_in, in_scalars}
use Rattle.mirror_rules.specs.Rows.{executions_of, rows_of}
use Rattle.pide_mirror.specs.declared.place.Place.{Place}

-- the place of an entry of the node of a name at which stands a command
pub record StandsAt (nodes : NodeList) (pair : List ℕ × Node) (e : Entry) : Type 0 where
  pub node : ℕ
  pub at : ℕ
  pub node_is : slice_get nodes node ≡ Some pair
  pub entry_is : slice_get pair.1.entries at ≡ Some e

-- the command has the execution in a version
abbrev pub has_execution : Image → List ℕ × Node → Entry → ℕ → Bool
has_execution image pair e exec = has (executions_of (rows_of image pair.0) e.command) exec

-- what a version has of a command that has an execution
abbrev pub place_of : Image → List ℕ × Node → Entry → ℕ → Place
place_of image pair e exec = record {
  source = source pair.1.text e.range;
  eval = reports_at image e.command (record { exec = exec; kind = Eval });
  fork = reports_at image e.command (record { exec = exec; kind = Fork });
  print = reports_at image e.command (record { exec = exec; kind = Print });
}

-- a place that may be there for an execution and a command
abbrev pub PlaceTable : Type 0
PlaceTable = ℕ → ℕ → Option Place

-- just the commands of a version that have an execution are there, with what it has of them
pub record ArePlaced (table : PlaceTable) (image : Image) : Type 0 where
  pub there : (pair : List ℕ × Node) (e : Entry) (exec : ℕ) → StandsAt image.nodes pair e
      → has_execution image pair e exec ≡ true
      → table exec e.command ≡ Some (place_of image pair e exec)
  pub only : (exec command : ℕ) (place : Place) → table exec command ≡ Some place
      → (pair : List ℕ × Node) × (e : Entry) × StandsAt image.nodes pair e
      × (has_execution image pair e exec ≡ true) × (e.command ≡ command)

-- a place without reports
abbrev pub unreported : List ℕ → Place
unreported text = record { source = text; eval = None; fork = None; print = None }

-- the reports of a part of a kind
abbrev pub reports_of : Place → PartKind → Option (List Report)
reports_of place Eval = place.eval
reports_of place Fork = place.fork
reports_of place Print = place.print

-- a place with these
abbrev pub with_reports : PartKind → List Report → Place → Place
with_reports Eval reports place = record place { eval = Some reports }
with_reports Fork reports place = record place { fork = Some reports }
with_reports Print reports place = record place { print = Some reports }

-- all that is told lies in the place's source
abbrev pub takes : PartReport → Place → Bool
takes told place = list_all (λ r. lies_in told.protocol place.source r.range) told.reports

-- a place with what is told, where all of it lies there
abbrev pub told_at : PartReport → Place → Place
told_at told place = if takes told place then with_reports told.part.kind
    (map (in_scalars told.protocol place.source) told.reports) place else place

-- places with what is told of an execution
abbrev pub told_in : PartReport → PlaceTable → PlaceTable
told_in told table exec command = if told.part.exec == exec
    then option_map (told_at told) (table exec command) else table exec command

-- the part's command has its execution still
abbrev pub IsThere : PlaceTable → FinishedPart → Type 0
IsThere table f = (place : Place) × (table f.part.exec f.command ≡ Some place)

-- so for each part that was reported
abbrev pub AreThere : PlaceTable → Image → Type 0
AreThere table image = AllByRecursion (IsThere table) image.finished

-- what is there, or else a place without reports
abbrev pub or_unreported : Option Place → List ℕ → Place
or_unreported (Some place) text = place
or_unreported None text = unreported text

-- the places of a new version by those of the tip: what has its execution still stays as it is
pub record AreRenewed (table new : PlaceTable) (image : Image) : Type 0 where
  pub there : (pair : List ℕ × Node) (e : Entry) (exec : ℕ) → StandsAt image.nodes pair e
      → has_execution image pair e exec ≡ true → new exec e.command
      ≡ Some (or_unreported (table exec e.command) (source pair.1.text e.range))
  pub only : (exec command : ℕ) (place : Place) → new exec command ≡ Some place
      → (pair : List ℕ × Node) × (e : Entry) × StandsAt image.nodes pair e
      × (has_execution image pair e exec ≡ true) × (e.command ≡ command)

-- a command that both versions have stands in a node of one name in both, with the same source
abbrev pub HaveSources : NodeList → NodeList → Type 0
HaveSources old new = (pair other : List ℕ × Node) (e f : Entry) → StandsAt new pair e
    → StandsAt old other f → e.command ≡ f.command
    → (other.0 ≡ pair.0) × (source pair.1.text e.range ≡ source other.1.text f.range)
