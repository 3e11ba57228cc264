-- Where the reports of a finished part belong.
use Rattle.std.specs.Prelude.{ℕ, ◌+◌, Bool, ◌&&◌, nat_le, if◌then◌else◌, List, [], ◌∷◌, ◌++◌, length, map, flat_map}
use Rattle.std.specs.List.{list_any, list_all}
use Rattle.text_words.specs.Members.{has}
use Rattle.pide_base.specs.declared.part.Part.{Part}
use Rattle.pide_base.specs.declared.range.Range.{Range}
use Rattle.outer_syntax.specs.Symbols.{symbols_of}
use Rattle.symbol_markup.specs.Told.{at_scalars}
use Rattle.report_markup.specs.declared.report.Report.{Report}
use Rattle.doc_nodes.specs.declared.node.Entry.{Entry}
use Rattle.doc_nodes.specs.declared.node.Node.{Node}
use Rattle.message_values.specs.declared.protocol.Protocol.{Protocol}
use Rattle.message_values.specs.declared.protocol.Protocol.TheVariants.{Scalars, Symbols}
use Rattle.buffer_rules.specs.Cuts.{source}
use Rattle.exec_rules.specs.Listed.{Told}
use Rattle.mirror_rules.specs.Images.{FinishedPart, Image}
use Rattle.mirror_rules.specs.Rows.{executions_of, rows_of}

-- the range lies in a source: places count its scalars from 0, or its symbols from 1
abbrev pub lies_in : Protocol → List ℕ → Range → Bool
lies_in Scalars text r = nat_le r.start r.stop && nat_le r.stop (length text)
lies_in Symbols text r = nat_le 1 r.start
    && (nat_le r.start r.stop && nat_le r.stop (length (symbols_of text) + 1))

-- the report at its range in scalars
abbrev pub in_scalars : Protocol → List ℕ → Report → Report
in_scalars Scalars text r = r
in_scalars Symbols text r = at_scalars text r

-- a reply that tells a part finished, by what its ranges count
pub record PartReport : Type 0 where
  pub protocol : Protocol
  pub part : Part
  pub reports : List Report

-- it belongs to a command that has the part's execution and in whose source all its reports lie
abbrev pub belongs_to : PartReport → Node → List Told → Entry → Bool
belongs_to told node rows e = has (executions_of rows e.command) told.part.exec
    && list_all (λ r. lies_in told.protocol (source node.text e.range) r.range) told.reports

-- the part as finished at a command
abbrev pub finished_at : PartReport → Node → Entry → FinishedPart
finished_at told node e = record {
  part = told.part;
  command = e.command;
  reports = map (in_scalars told.protocol (source node.text e.range)) told.reports;
}

-- the same where it belongs to the command
abbrev pub finished_by : PartReport → Node → List Told → Entry → List FinishedPart
finished_by told node rows e =
    if belongs_to told node rows e then finished_at told node e ∷ [] else []

-- a version has a command to which it belongs
abbrev pub belongs_in : PartReport → Image → Bool
belongs_in told image = list_any
    (λ pair. list_any (belongs_to told pair.1 (rows_of image pair.0)) pair.1.entries) image.nodes

-- a version with what is finished by it
abbrev pub with_report : PartReport → Image → Image
with_report told image = record image {
  finished = flat_map (λ pair. flat_map
      (finished_by told pair.1 (rows_of image pair.0)) pair.1.entries) image.nodes
      ++ image.finished;
}
