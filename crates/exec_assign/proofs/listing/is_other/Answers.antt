use Rattle.std.proofs.Common.{◌+◌, ◌<◌, Bool, length, sym, ap, ◌∙◌, arith}
use Rattle.std.specs.Prelude.{not, ◌&&◌}
use Rattle.exec_assign.proofs.TellLemmas.{same_from, told_differ, other_step}
use Rattle.exec_assign.proofs.listing.is_other.Goals as goal

pub returns-then-entries-before : goal.returns-then-entries-before
returns-then-entries-before c =
    ap not (sym (told_differ c.args.entries.now c.args.before.now c.args.rows.now c.args.old.now c.if-entries-before.true))

pub returns-then-not-same_command : goal.returns-then-not-same_command
returns-then-not-same_command c =
    let within : c.commands.place < length c.args.before.now = omega (arith, c.commands-test.true, c.if-entries-before.false) in
    let rest = same_from c.args.entries.now c.args.rows.now c.args.before.now c.args.old.now (c.commands.place + 1) in
    let step = other_step c.args.entries.now c.args.before.now c.args.rows.now c.args.old.now c.commands.place c.index-entries-place.result c.index-before-place.result
    c.row_at-row.result c.row_at-had.result c.commands-test.true within c.index-entries-place.is c.index-before-place.is c.row_at-row.ensures c.row_at-had.ensures in
    ap not (ap (λ (b : Bool). b && rest) (sym c.if-not-same_command.true ∙ c.same_command.ensures) ∙ sym step ∙ c.commands.invariant)

pub commands-preserved : goal.commands-preserved
commands-preserved c =
    let within : c.commands.place < length c.args.before.now = omega (arith, c.commands-test.true, c.if-entries-before.false) in
    let rest = same_from c.args.entries.now c.args.rows.now c.args.before.now c.args.old.now (c.commands.place + 1) in
    let step = other_step c.args.entries.now c.args.before.now c.args.rows.now c.args.old.now c.commands.place c.index-entries-place.result c.index-before-place.result
    c.row_at-row.result c.row_at-had.result c.commands-test.true within c.index-entries-place.is c.index-before-place.is c.row_at-row.ensures c.row_at-had.ensures in
    ap (λ (b : Bool). b && rest) (sym c.if-not-same_command.false ∙ c.same_command.ensures) ∙ sym step ∙ c.commands.invariant
