use Rattle.std.proofs.Common.{◌≡◌, not, map, length}
use Rattle.std.specs.List.{list_any}
use Rattle.text_words.specs.Members.{has}
use Rattle.pide_mirror.proofs.rows.has_unknown.Given as goal

abbrev pub invariant-rows : goal.invariant-rows
invariant-rows l = list_any (λ row. not (has (map (λ e. e.command) l.entries) row.command)) l.rest
    ≡ list_any (λ row. not (has (map (λ e. e.command) l.entries) row.command)) l.rows

abbrev pub decreases-rows : goal.decreases-rows
decreases-rows l = length l.rest
