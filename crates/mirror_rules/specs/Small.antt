-- Small editors: what they send and hear (this project's own).
use Rattle.std.specs.Prelude.{ℕ, List, [], ◌∷◌, map, Option, Some, None, Result, Ok}
use Rattle.pide_base.specs.declared.part.Part.{Part}
use Rattle.pide_base.specs.declared.part.PartKind.TheVariants as kind
use Rattle.report_markup.specs.declared.kind.ReportKind.{ReportKind}
use Rattle.report_markup.specs.declared.report.Report.{Report}
use Rattle.message_values.specs.declared.editor_message.EditorMessage.{EditorMessage}
use Rattle.message_values.specs.declared.editor_message.EditorMessage.TheVariants as asks
use Rattle.message_values.specs.declared.item.Item.{Item}
use Rattle.message_values.specs.declared.mode.Mode.TheVariants.{Serve}
use Rattle.message_values.specs.declared.refusal.Refusal.{Refusal}
use Rattle.exec_rules.specs.Listed.{Told as RowTold}
use Rattle.reply_messages.specs.declared.told.NodeRows.{NodeRows}
use Rattle.reply_messages.specs.declared.told.Told.{Told}
use Rattle.mirror_rules.specs.declared.fault.MirrorFault.{MirrorFault}
use Rattle.mirror_rules.specs.Moves.{Move, Sent, Heard, Reflection, Going, Faulted, mirrored}
use Rattle.mirror_rules.specs.Looking.{View, view_in}

-- a report of no properties and no text
abbrev pub said : ReportKind → ℕ → ℕ → Report
said kind start stop = record {
  range = record { start = start; stop = stop };
  kind = kind;
  properties = [];
  text = [];
}

-- the evaluation of an execution, as a part
abbrev pub eval : ℕ → Part
eval exec = record { exec = exec; kind = kind.Eval }

-- an update without blobs
abbrev pub update : ℕ → List Item → EditorMessage
update version items = asks.Update version items []

-- the rows of a node, as a reply lists them
abbrev pub rows : List ℕ → List RowTold → NodeRows
rows name told =
    record { node = name; rows = map (λ r. record { command = r.0; executions = r.1 }) told }

-- a message more is sent
abbrev pub sends : List Move → EditorMessage → List Move
sends moves message = Sent (Ok message) ∷ moves

-- a reply more is heard, which begins at the byte 7
abbrev pub hears : List Move → Told → List Move
hears moves told = Heard 7 (Some told) ∷ moves

-- a message is sent and has its reply
abbrev pub exchange : List Move → EditorMessage → Told → List Move
exchange moves message told = hears (sends moves message) told

-- what is seen without edits, where there was no fault
abbrev pub seen_in : Reflection → ℕ → List ℕ → Option (Result View Refusal)
seen_in (Going m) version name = Some (view_in m version name [])
seen_in (Faulted fault) version name = None

-- what is seen of a node in a version after these moves, where no message steps workers
abbrev pub sight : List Move → ℕ → List ℕ → Option (Result View Refusal)
sight moves version name = seen_in (mirrored Serve moves) version name

-- the fault, where there was one
abbrev pub fault_in : Reflection → Option MirrorFault
fault_in (Going m) = None
fault_in (Faulted fault) = Some fault

-- the fault after these moves
abbrev pub fault : List Move → Option MirrorFault
fault moves = fault_in (mirrored Serve moves)
