use Rattle.std.proofs.Common.{◌≡◌, ◌++◌, List, length}
use Rattle.reply_messages.specs.declared.told.CommandRow.{CommandRow}
use Rattle.pide_mirror.specs.Indexed.{row_at}
use Rattle.pide_mirror.proofs.Indexing.{IsIndex}
use Rattle.pide_mirror.proofs.rows.indexed.Given as goal

abbrev pub invariant-rows : goal.invariant-rows
invariant-rows l = (front : List CommandRow) × (l.rows ≡ front ++ l.rest) × IsIndex (row_at l.index.entries) front

abbrev pub decreases-rows : goal.decreases-rows
decreases-rows l = length l.rest
