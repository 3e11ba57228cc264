-- The parts that an editor knows of a node's commands.
use Rattle.std.specs.Prelude.{ℕ, zero, suc, ◌==◌, Bool, ◌&&◌, if◌then◌else◌, List, [], ◌∷◌, ◌++◌, map, find, slice_get, Option}
use Rattle.std.specs.Option.{option_map, option_map_or}
use Rattle.pide_base.specs.declared.part.Part.{Part}
use Rattle.pide_base.specs.declared.part.PartKind.{PartKind}
use Rattle.pide_base.specs.declared.part.PartKind.TheVariants.{Eval, Fork, Print}
use Rattle.report_markup.specs.declared.report.Report.{Report}
use Rattle.doc_nodes.specs.declared.node.Entry.{Entry}
use Rattle.doc_nodes.specs.declared.node.Node.{Node}
use Rattle.doc_nodes.specs.Imports.{NodeList}
use Rattle.doc_nodes.specs.Aliases.{aliases_at}
use Rattle.doc_nodes.specs.Needs.{AliasList}
use Rattle.mirror_rules.specs.Forking.{may_fork, forks_by}
use Rattle.buffer_rules.specs.Cuts.{source}
use Rattle.core_rules.specs.Parts.{same_part}
use Rattle.core_rules.specs.Shown.{PartShown}
use Rattle.mirror_rules.specs.Images.{FinishedPart, Image}
use Rattle.mirror_rules.specs.Rows.{executions_of, rows_of}

-- whether it is what the part came to at the command
abbrev pub is_at : ℕ → Part → FinishedPart → Bool
is_at command part f = f.command == command && same_part f.part part

-- what a part reported at a command, where it is finished
abbrev pub reports_at : Image → ℕ → Part → Option (List Report)
reports_at image command part = option_map (λ f. f.reports) (find (is_at command part) image.finished)

-- a command's part of this kind, of an execution
abbrev pub part_of : Image → Entry → PartKind → ℕ → PartShown
part_of image e kind exec = record {
  exec = exec;
  span = e.range;
  reports = reports_at image e.command (record { exec = exec; kind = kind });
}

-- an evaluation has a part of its own and, once that tells that the command forks, the fork
abbrev pub evaluation_parts : Image → Bool → Entry → ℕ → List PartShown
evaluation_parts image may e exec =
    let own = part_of image e Eval exec in
    own ∷ (if forks_by may own.reports then part_of image e Fork exec ∷ [] else [])

-- the parts of a command that has these executions: an evaluation, and then prints
abbrev pub command_parts : Image → Bool → Entry → List ℕ → List PartShown
command_parts image may e [] = []
command_parts image may e (exec ∷ prints) =
    evaluation_parts image may e exec ++ map (part_of image e Print) prints

-- the aliases in force at a command of the node at a place: in its first, the header, none is
abbrev pub aliases_for : NodeList → ℕ → ℕ → AliasList
aliases_for nodes p zero = []
aliases_for nodes p (suc i) = (aliases_at nodes p).pairs

-- the parts of a node's commands, from the command of a number on
abbrev pub parts_from : Image → ℕ → List ℕ × Node → ℕ → List Entry → List PartShown
parts_from image p pair i [] = []
parts_from image p pair i (e ∷ es) = command_parts image
    (may_fork (aliases_for image.nodes p i) (source pair.1.text e.range)) e
    (executions_of (rows_of image pair.0) e.command)
    ++ parts_from image p pair (suc i) es

-- the parts of the node at a place
abbrev pub node_parts : Image → ℕ → List PartShown
node_parts image p = option_map_or
    (λ pair. parts_from image p pair 0 pair.1.entries) (slice_get image.nodes p) []
