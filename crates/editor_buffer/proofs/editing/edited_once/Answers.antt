use Rattle.editor_buffer.specs.Held.{text_of}
use Rattle.editor_buffer.proofs.KnownEditSteps.{out_of_range, another}
use Rattle.editor_buffer.proofs.editing.edited_once.Goals as goal

pub returns-in-Err-OutOfRange-clause-text : goal.returns-in-Err-OutOfRange-clause-text
returns-in-Err-OutOfRange-clause-text c =
    out_of_range c.args.edit.now (text_of c.args.text) c.in-Err-OutOfRange.field-0-0 c.in-Err-OutOfRange.field-0-1
    ((c.reparsed.ensures.out_of_range c.in-Err-OutOfRange.field-0-0 c.in-Err-OutOfRange.field-0-1).0 (cc))

pub returns-in-Err-Differs-clause-text : goal.returns-in-Err-Differs-clause-text
returns-in-Err-Differs-clause-text c =
    another c.args.edit.now (text_of c.args.text) c.in-Err-Differs.field-0-0
    ((c.reparsed.ensures.differs c.in-Err-Differs.field-0-0).0 (cc))
