-- The document of theories (this project's own).
use Rattle.std.specs.Prelude.{ℕ, true, List, [], map}
use Rattle.doc_nodes.specs.Imports.{NodeList}
use Rattle.buffer_rules.specs.declared.sheet.Sheet.{Sheet}
use Rattle.buffer_rules.specs.Sheets.{SheetList}
use Rattle.buffer_rules.specs.Nodes.{nodes_after}
use Rattle.pide_build.specs.Theories.{TheoryList}

-- a text all of which is wanted, whatever is seen
abbrev pub sheet_of : List ℕ → Sheet
sheet_of text = record { text = text; required = true; ranges = [] }

-- the sheets of the theories
abbrev pub sheets_of : TheoryList → SheetList
sheets_of theories = map (λ theory. (theory.0, sheet_of theory.1)) theories

-- their nodes: those of the first version of a document
abbrev pub nodes_of : TheoryList → NodeList
nodes_of theories = (nodes_after [] (sheets_of theories) 1).nodes
