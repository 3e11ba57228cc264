-- The parts of a node's commands by what is kept of a version (this project's own).
use Rattle.std.specs.Prelude.{ℕ, Bool, false, if◌then◌else◌, List, [], ◌∷◌, ◌++◌, map, Option, Some, None}
use Rattle.std.specs.Option.{option_and_then, option_copied}
use Rattle.pide_base.specs.declared.part.PartKind.{PartKind}
use Rattle.pide_base.specs.declared.part.PartKind.TheVariants.{Eval, Fork, Print}
use Rattle.doc_nodes.specs.declared.node.Entry.{Entry}
use Rattle.doc_nodes.specs.Needs.{AliasList}
use Rattle.core_rules.specs.Shown.{PartShown}
use Rattle.snapshots.specs.declared.part.AssignedPart.{AssignedPart}
use Rattle.reply_messages.specs.declared.told.CommandRow.{CommandRow}
use Rattle.mirror_rules.specs.Forking.{may_fork, forks_by}
use Rattle.pide_mirror.specs.Places.{PlaceTable, reports_of}
use Rattle.pide_mirror.specs.declared.place.Place.{Place}

-- an assigned part, as it is shown
abbrev pub as_shown : AssignedPart → PartShown
as_shown part =
    record { exec = part.exec; span = part.span; reports = option_copied part.reports }

-- a command's part of a kind, by what is kept of the command and its execution
abbrev pub part_kept : Entry → PartKind → ℕ → Option Place → PartShown
part_kept e kind exec place = record {
  exec = exec;
  span = e.range;
  reports = option_and_then (λ kept. reports_of kept kind) place;
}

-- the command forks under these aliases
abbrev pub place_forks : AliasList → Option Place → Bool
place_forks aliases None = false
place_forks aliases (Some kept) = forks_by (may_fork aliases kept.source) kept.eval

-- the part of an evaluation and, where the command forks, the fork
abbrev pub evaluation_kept : AliasList → Entry → ℕ → Option Place → List PartShown
evaluation_kept aliases e exec place = part_kept e Eval exec place
    ∷ (if place_forks aliases place then part_kept e Fork exec place ∷ [] else [])

-- the part of a print
abbrev pub print_kept : PlaceTable → Entry → ℕ → PartShown
print_kept table e exec = part_kept e Print exec (table exec e.command)

-- the parts of a command that has these executions: an evaluation, and then prints
abbrev pub command_kept : PlaceTable → AliasList → Entry → List ℕ → List PartShown
command_kept table aliases e [] = []
command_kept table aliases e (exec ∷ prints) =
    evaluation_kept aliases e exec (table exec e.command) ++ map (print_kept table e) prints

-- the parts of commands, which have these rows
abbrev pub commands_kept : PlaceTable → AliasList → List Entry → List CommandRow → List PartShown
commands_kept table aliases (e ∷ es) (row ∷ rows) =
    command_kept table aliases e row.executions ++ commands_kept table aliases es rows
commands_kept table aliases es rows = []

-- the same of a node: in the first command, the header, no aliases are in force
abbrev pub node_kept : PlaceTable → AliasList → List Entry → List CommandRow → List PartShown
node_kept table aliases (header ∷ es) (row ∷ rows) =
    command_kept table [] header row.executions ++ commands_kept table aliases es rows
node_kept table aliases es rows = []
