use Rattle.std.proofs.Common.{◌≡◌, drop}
use Rattle.exec_rules.specs.Listed.{told_commands, same_by, same_told}
use Rattle.exec_assign.proofs.listing.is_other.Given as goal

abbrev pub invariant-commands : goal.invariant-commands
invariant-commands l = same_by same_told (told_commands (drop l.place l.entries) (drop l.place l.rows)) (told_commands (drop l.place l.before) (drop l.place l.old))
    ≡ same_by same_told (told_commands l.entries l.rows) (told_commands l.before l.old)
