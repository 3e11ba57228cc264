-- What an update makes of an editor's versions, once the prover has assigned it.
use Rattle.std.specs.Prelude.{ℕ, Bool, nat_lt, if◌then◌else◌, List, [], ◌∷◌, ◌++◌, length, map, filter, Result, Ok, Err}
use Rattle.std.specs.List.{list_any}
use Rattle.text_words.specs.Members.{has}
use Rattle.message_values.specs.declared.refusal.Refusal.{Refusal}
use Rattle.message_values.specs.declared.refusal.Refusal.TheVariants.{VersionNotHigher}
use Rattle.buffer_rules.specs.Updates.{Asked}
use Rattle.buffer_rules.specs.Preparing.{Buffer, prepared}
use Rattle.exec_rules.specs.Listed.{Told}
use Rattle.reply_messages.specs.declared.told.NodeRows.{NodeRows}
use Rattle.mirror_rules.specs.Images.{FinishedPart, Image, Mirror}
use Rattle.mirror_rules.specs.Rows.{executions_of, node_rows}

-- the editor's document after an update, or why the update is refused
abbrev pub buffer_after : Mirror → ℕ → Asked → Result Buffer Refusal
buffer_after m version asked = if nat_lt m.last version
    then prepared m.buffer (length m.live) asked else Err VersionNotHigher

-- the part's command still has its execution
abbrev pub stands : List (List ℕ × List Told) → FinishedPart → Bool
stands rows f = list_any (λ node. has (executions_of node.1 f.command) f.part.exec) rows

-- a version behind the tip, of the editor's nodes: finished parts stay where their commands keep
-- their executions
abbrev pub image_after : Image → List NodeRows → Buffer → Image
image_after tip listed buffer =
    let rows = map (node_rows tip listed) buffer.nodes in
    record { nodes = buffer.nodes; rows = rows; finished = filter (stands rows) tip.finished }

-- with this version as the new tip
abbrev pub with_tip : Mirror → ℕ → Buffer → Image → Mirror
with_tip m version buffer image = record m {
  buffer = buffer;
  live = m.live ++ record { id = version; version = image } ∷ [];
  tip = image;
  last = version;
}

-- after an update to a version that assigns these rows; a refused one changes nothing
abbrev pub after_update : Mirror → ℕ → List NodeRows → Result Buffer Refusal → Mirror
after_update m version listed (Ok buffer) =
    with_tip m version buffer (image_after m.tip listed buffer)
after_update m version listed (Err reason) = m
