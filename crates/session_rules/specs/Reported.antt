-- What checking a version from nothing reports, at the commands to which it assigns executions
-- (this project's own).
use Rattle.std.specs.Prelude.{ℕ, if◌then◌else◌, List, [], ◌∷◌, ◌++◌, flat_map}
use Rattle.std.specs.Option.{option_map_or}
use Rattle.report_markup.specs.declared.report.Report.{Report}
use Rattle.doc_nodes.specs.declared.node.Entry.{Entry}
use Rattle.doc_nodes.specs.Imports.{place_of}
use Rattle.exec_rules.specs.declared.row.Row.{Row}
use Rattle.exec_rules.specs.declared.version.Version.{Version}
use Rattle.exec_rules.specs.Assigning.{entries_in, rows_in}
use Rattle.language.specs.Lang.{Lang}
use Rattle.core_rules.specs.Settings.{Setting, made_of, forked, printed, state_behind}
use Rattle.core_rules.specs.Scratch.{scratch_at}
use Rattle.core_rules.specs.Shown.{PartShown}

-- what a part that is shown reports: nothing while it is unfinished
abbrev pub part_reports : PartShown → List Report
part_reports part = option_map_or (λ reports. reports) part.reports []

-- what a command reports that is run on this, by its evaluation, its fork where it forks, and its
-- print where it is assigned one
abbrev pub command_reports : {S : Type 0} → Lang S → Row → Setting S → List Report
command_reports l row s = (made_of l s).reports
    ++ ((if (made_of l s).forks then forked l s else [])
    ++ option_map_or (λ q. printed l (record s { state = state_behind l s })) row.print [])

-- so for the first of a node's commands, which have these rows
abbrev pub commands_reports : {S : Type 0} → Lang S → List Entry → List Row → List (Setting S)
    → List Report
commands_reports l (e ∷ es) (row ∷ rows) (s ∷ ss) =
    command_reports l row s ++ commands_reports l es rows ss
commands_reports l es rows ss = []

-- so for the node of a name
abbrev pub node_reports : {S : Type 0} → Lang S → Version → List ℕ → List Report
node_reports l version name = commands_reports l (entries_in version name) (rows_in version name)
    (option_map_or (scratch_at l version.nodes version.blobs) (place_of version.nodes name) [])

-- so for all nodes
abbrev pub version_reports : {S : Type 0} → Lang S → Version → List Report
version_reports l version = flat_map (λ pair. node_reports l version pair.0) version.nodes
