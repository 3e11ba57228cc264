use Rattle.std.proofs.Common.{rules}
use Rattle.editor_buffer.proofs.KnownEditSteps.{another, out_of_range, makes}
use Rattle.session_replies.proofs.edited.make.Goals as goal

pub returns-in-Ok-clause-text : goal.returns-in-Ok-clause-text
returns-in-Ok-clause-text c = makes c.edits_law.ensures c.args.edit.now c.args.text.now _ c.in-Ok.ensures.applied

pub returns-in-Err-OutOfRange-clause-text : goal.returns-in-Err-OutOfRange-clause-text
returns-in-Err-OutOfRange-clause-text c =
    out_of_range c.args.edit.now c.args.text.now c.in-Err-OutOfRange.field-0-0 c.in-Err-OutOfRange.field-0-1 (search (rules, c.apply-made.ensures))

pub returns-in-Err-Differs-clause-text : goal.returns-in-Err-Differs-clause-text
returns-in-Err-Differs-clause-text c =
    another c.args.edit.now c.args.text.now c.in-Err-Differs.field-0-0 (search (rules, c.apply-made.ensures))
