-- What checking one text from nothing reports: the text is the only node of a document, and all of
-- its commands are wanted (this project's own).
use Rattle.std.specs.Prelude.{ℕ, true, if◌then◌else◌, List, [], ◌∷◌, ◌++◌, codes, map, zip}
use Rattle.std.specs.List.{flat_map}
use Rattle.std.specs.Option.{option_map_or}
use Rattle.std.specs.Str.{encode_utf8_all}
use Rattle.pide_base.specs.NodeName.{is_node_name}
use Rattle.report_markup.specs.declared.report.Report.{Report}
use Rattle.report_markup.specs.Ranges.{moved}
use Rattle.report_markup.specs.Sorting.{ordered_reports}
use Rattle.outer_syntax.specs.Reading.{header_in}
use Rattle.doc_nodes.specs.declared.node.Entry.{Entry}
use Rattle.doc_nodes.specs.Imports.{NodeList}
use Rattle.language.specs.Lang.{Lang}
use Rattle.core_rules.specs.Settings.{Setting, made_of, forked}
use Rattle.core_rules.specs.Scratch.{scratch_at}
use Rattle.buffer_rules.specs.Sheets.{SheetList}
use Rattle.buffer_rules.specs.Nodes.{nodes_after}

-- a name that a node can have, else `Scratch`
abbrev pub name_or_scratch : List ℕ → List ℕ
name_or_scratch name = if is_node_name (encode_utf8_all name) then encode_utf8_all name else codes
    "Scratch"

-- the name of the text's node: that of the theory, if it has a header
abbrev pub text_name : List ℕ → List ℕ
text_name text = option_map_or (λ header. name_or_scratch header.name) (header_in text)
    (codes "Scratch")

-- the text as the only sheet of a document
abbrev pub one_sheet : List ℕ → SheetList
one_sheet text = (text_name text, record { text = text; required = true; ranges = [] }) ∷ []

-- the nodes of this document
abbrev pub one_node : List ℕ → NodeList
one_node text = (nodes_after [] (one_sheet text) 1).nodes

-- the commands of the only node
abbrev pub entries_of : NodeList → List Entry
entries_of [] = []
entries_of (node ∷ nodes) = node.1.entries

-- what a command reports, and what its fork reports if it has one, at the command's place in the
-- text
abbrev pub reported : {S : Type 0} → Lang S → Entry × Setting S → List Report
reported l pair = map (moved pair.0.range.start) ((made_of l pair.1).reports
    ++ (if (made_of l pair.1).forks then forked l pair.1 else []))

-- what the nodes of a document report that has one
abbrev pub all_reported : {S : Type 0} → Lang S → NodeList → List Report
all_reported l nodes = ordered_reports
    (flat_map (reported l) (zip (entries_of nodes) (scratch_at l nodes [] 0)))

-- what is reported of a text, in report order
abbrev pub markup_of : {S : Type 0} → Lang S → List ℕ → List Report
markup_of l text = all_reported l (one_node text)
