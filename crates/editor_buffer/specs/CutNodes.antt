-- What cutting a node gives (this project's own).
use Rattle.std.specs.Prelude.{◌≡◌, ℕ, ◌+◌, ◌<◌, ◌≤◌, List, Result, Ok, Err}
use Rattle.pide_base.specs.Ids.{id_end}
use Rattle.message_values.specs.declared.refusal.Refusal.TheVariants.{Limit}
use Rattle.doc_nodes.specs.Needs.{AliasList}
use Rattle.buffer_rules.specs.declared.sheet.Sheet.{Sheet}
use Rattle.buffer_rules.specs.Numbers.{Command, new_count}
use Rattle.buffer_rules.specs.Nodes.{sources, cut}
use Rattle.editor_buffer.specs.declared.fault.PrepareError.{PrepareError}
use Rattle.editor_buffer.specs.declared.fault.PrepareError.TheVariants.{Refused, NoMemory}
use Rattle.editor_buffer.specs.declared.cut.CutNode.{CutNode}

-- the next id after a sheet is cut
abbrev pub next_after : Sheet → AliasList → List Command → ℕ → ℕ
next_after sheet aliases before next = next + new_count before (sources sheet aliases)

-- the node that the sheet is cut to, and the next id; or a refusal, where that is no id
abbrev pub GivesCut : Sheet → AliasList → List Command → ℕ → Result CutNode PrepareError → Type 0
GivesCut sheet aliases before next (Ok made) =
    (made.node ≡ cut sheet aliases before next)
    × (made.next ≡ next_after sheet aliases before next) × (made.next ≤ id_end)
GivesCut sheet aliases before next (Err NoMemory) = Unit {0}
GivesCut sheet aliases before next (Err (Refused refusal)) =
    (refusal ≡ Limit) × (id_end < next_after sheet aliases before next)
