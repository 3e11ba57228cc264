-- What an editor knows of a document (after the editor's side of Isabelle/PIDE).
use Rattle.std.specs.Prelude.{ℕ, List, [], Result}
use Rattle.pide_base.specs.declared.part.Part.{Part}
use Rattle.report_markup.specs.declared.report.Report.{Report}
use Rattle.doc_nodes.specs.Imports.{NodeList}
use Rattle.core_tables.specs.declared.versions.Live.{Live}
use Rattle.exec_rules.specs.Listed.{Told}
use Rattle.message_values.specs.declared.editor_message.EditorMessage.{EditorMessage}
use Rattle.message_values.specs.declared.protocol.Protocol.{Protocol}
use Rattle.message_values.specs.declared.protocol.Protocol.TheVariants.{Scalars}
use Rattle.message_values.specs.declared.refusal.Refusal.{Refusal}
use Rattle.buffer_rules.specs.Preparing.{Buffer}
use Rattle.buffer_rules.specs.Preparing as buffer

-- a finished part, the command that has its execution, and what it reported, at ranges that count
-- scalars of the command's source
pub record FinishedPart : Type 0 where
  pub part : Part
  pub command : ℕ
  pub reports : List Report

-- a version: its nodes, which the editor has from its own edits; by name, what each node's commands
-- are assigned; and the parts that were reported
pub record Image : Type 0 where
  pub nodes : NodeList
  pub rows : List (List ℕ × List Told)
  pub finished : List FinishedPart

-- the editor's own document; the live versions, oldest first; the tip; the greatest version so far;
-- what places of reports count; and what was sent and is not answered, oldest first
pub record Mirror : Type 0 where
  pub buffer : Buffer
  pub live : List (Live Image)
  pub tip : Image
  pub last : ℕ
  pub protocol : Protocol
  pub unanswered : List (Result EditorMessage Refusal)

-- the version before any update
abbrev pub start_image : Image
start_image = record { nodes = []; rows = []; finished = [] }

-- before anything was sent or heard
abbrev pub empty_mirror : Mirror
empty_mirror = record {
  buffer = buffer.empty_buffer;
  live = [];
  tip = start_image;
  last = 0;
  protocol = Scalars;
  unanswered = [];
}
