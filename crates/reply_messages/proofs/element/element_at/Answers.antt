-- What stands behind the tag, and behind the text.
use Rattle.reply_messages.proofs.Taking.{behind_tag, behind_text}
use Rattle.reply_messages.proofs.element.element_at.Goals as goal

pub returns-in_default-after : goal.returns-in_default-after
returns-in_default-after c = λ tag inside rest l i e. c.in_default-after.ensures _
    (behind_tag c.args.text.now c.in-Some.inner.now _ _ tag inside rest c.in-Some.ensures c.cut.ensures.whole c.cut.ensures.before c.cut.ensures.behind l e)

pub returns-in_default-after-2 : goal.returns-in_default-after-2
returns-in_default-after-2 c = λ tag inside rest l i e. c.in_default-after-2.ensures _
    (behind_text _ c.in-Some-after.inside.now _ _ inside rest c.in-Some-after.ensures c.cut-2.ensures.whole c.cut-2.ensures.before c.cut-2.ensures.behind i
    (behind_tag c.args.text.now c.in-Some.inner.now _ _ tag inside rest c.in-Some.ensures c.cut.ensures.whole c.cut.ensures.before c.cut.ensures.behind l e))
