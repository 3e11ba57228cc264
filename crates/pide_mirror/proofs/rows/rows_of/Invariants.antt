use Rattle.std.proofs.Common.{◌≡◌, take}
use Rattle.mirror_rules.specs.Rows.{rows_by}
use Rattle.pide_mirror.specs.Kept.{told_rows}
use Rattle.pide_mirror.proofs.rows.rows_of.Given as goal

abbrev pub invariant-entries : goal.invariant-entries
invariant-entries l = told_rows l.made.items ≡ rows_by (take l.entry-index l.entries) (told_rows l.rows)
