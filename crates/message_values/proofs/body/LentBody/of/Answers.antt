-- A text without fault spells a body, which is normal.
use Rattle.std.proofs.Common.{sym, ap}
use Rattle.yxml.specs.Bodies.{body_of}
use Rattle.yxml.specs.Answer.{answer_by}
use Rattle.yxml.specs.Reading.{marks_in}
use Rattle.yxml.specs.Spelling.{merged_texts}
use Rattle.message_values.proofs.Whole.{whole_closed, whole_body}
use Rattle.message_values.proofs.body.LentBody.of.Goals as goal

pub invariant_of-result : goal.invariant_of-result
invariant_of-result c =
    let ms = merged_texts (marks_in c.args.text.now) in
    let spells = (c.each_text_has_one_answer.ensures.body c.args.text.now (body_of ms)).0 (ap (λ f. answer_by f ms) (sym c.in-None.ensures)) in
    whole_closed c.args.text.now (body_of ms) spells (c.what_is_written_is_read_back.ensures.normal c.args.text.now (body_of ms) spells)

pub returns-in-None : goal.returns-in-None
returns-in-None c =
    let ms = merged_texts (marks_in c.args.text.now) in
    let spells = (c.each_text_has_one_answer.ensures.body c.args.text.now (body_of ms)).0 (ap (λ f. answer_by f ms) (sym c.in-None.ensures)) in
    whole_body c.args.text.now (body_of ms) spells (c.what_is_written_is_read_back.ensures.normal c.args.text.now (body_of ms) spells) (sym c.in-None.ensures)
