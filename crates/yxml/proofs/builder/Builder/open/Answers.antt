-- A frame is put around what stands before the element.
use Rattle.std.proofs.Common.{◌∙◌, refl}
use Rattle.std.proofs.lemmas.Result.{on_ok_weaker}
use Rattle.yxml.proofs.Builders.{takes-opening}
use Rattle.yxml.proofs.builder.Builder.open.Goals as goal

pub returns : goal.returns
returns c = on_ok_weaker c.push.result
    (λ e. takes-opening c.args.self.now c.end_text.new.self _ _ c.in_ok-end_text.ensures c.replace-before.ensures.value e
    (c.replace-before.ensures.after ∙ c.new.ensures) refl) c.push.ensures.ok
