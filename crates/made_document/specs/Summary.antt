-- What a made document comes to, counted on the rules from nothing (this project's own).
use Rattle.std.specs.Prelude.{ℕ, Bool, true, false, List, [], ◌++◌, codes, decimal, filter, flat_map, length, Option}
use Rattle.std.specs.Option.{option_map, option_map_or}
use Rattle.report_markup.specs.declared.kind.ReportKind.{ReportKind}
use Rattle.report_markup.specs.declared.kind.ReportKind.TheVariants.{Error}
use Rattle.report_markup.specs.declared.report.Report.{Report}
use Rattle.core_tables.specs.declared.versions.Live.{Live}
use Rattle.core_tables.specs.Live.{version_of}
use Rattle.exec_rules.specs.declared.version.Version.{Version}
use Rattle.language.specs.Lang.{Lang}
use Rattle.core_rules.specs.Assigned.{command_ids, executions_of}
use Rattle.core_rules.specs.Doc.{greatest}
use Rattle.made_document.specs.Messages.{first_items, second_items, last_version}
use Rattle.session_rules.specs.Reported.{version_reports}
use Rattle.session_rules.specs.Updates.{Updates, document_of}
use Rattle.made_document.specs.declared.summary.Summary.{Summary}

-- the updates that make a document of so many nodes
abbrev pub made_updates : ℕ → Updates
made_updates count = record {
  first = 1;
  first_asked = record { items = first_items count; blobs = [] };
  second = last_version;
  second_asked = record { items = second_items count; blobs = [] };
}

-- the greatest execution that a live version assigns
abbrev pub greatest_execution : List (Live Version) → ℕ
greatest_execution live = greatest 0 (flat_map (λ one. executions_of one.version) live)

-- a kind of report that tells why a command failed
abbrev pub is_error_kind : ReportKind → Bool
is_error_kind Error = true
is_error_kind kind = false

-- such a report
abbrev pub is_error : Report → Bool
is_error report = is_error_kind report.kind

-- what is counted of a version: its nodes, their commands, what was executed, and what checking it
-- from nothing reports
abbrev pub summary_of : {S : Type 0} → Lang S → List (Live Version) → Version → Summary
summary_of l live version = record {
  nodes = length version.nodes;
  commands = length (command_ids version.nodes);
  executions = greatest_execution live;
  reports = length (version_reports l version);
  errors = length (filter is_error (version_reports l version));
}

-- so of the last version, where the updates make it
abbrev pub summary : {S : Type 0} → Lang S → ℕ → Option Summary
summary l count = let d = document_of l (made_updates count) in
    option_map (summary_of l d.live) (version_of d.live last_version)

-- a word, a space and a number on a line
abbrev pub number_line : List ℕ → ℕ → List ℕ
number_line word number = word ++ (codes " " ++ (decimal number ++ codes "\n"))

-- a line for each number
abbrev pub summary_text : Summary → List ℕ
summary_text s = number_line (codes "nodes") s.nodes ++ (number_line (codes "commands") s.commands
    ++ (number_line (codes "executions") s.executions ++ (number_line (codes "reports") s.reports
    ++ number_line (codes "errors") s.errors)))

-- the lines for a document of so many nodes
abbrev pub summary_lines : {S : Type 0} → Lang S → ℕ → List ℕ
summary_lines l count = option_map_or summary_text (summary l count) []
