use Rattle.std.proofs.Common.{rules}
use Rattle.editor_buffer.proofs.KnownEditSteps.{another, out_of_range, makes}
use Rattle.pide_mirror.proofs.looking.make.Goals as goal

pub returns-in-Ok : goal.returns-in-Ok
returns-in-Ok c = makes c.edits_law.ensures c.args.edit.now c.args.text.now _ c.in-Ok.ensures.applied

pub returns-in-Err-OutOfRange : goal.returns-in-Err-OutOfRange
returns-in-Err-OutOfRange c =
    out_of_range c.args.edit.now c.args.text.now c.in-Err-OutOfRange.field-0-0 c.in-Err-OutOfRange.field-0-1 (search (rules, c.apply.ensures))

pub returns-in-Err-Differs : goal.returns-in-Err-Differs
returns-in-Err-Differs c =
    another c.args.edit.now c.args.text.now c.in-Err-Differs.field-0-0 (search (rules, c.apply.ensures))
