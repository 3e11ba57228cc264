-- The innermost frame is closed.
use Rattle.std.proofs.Common.{refl}
use Rattle.std.proofs.lemmas.Result.{on_ok_weaker}
use Rattle.yxml.proofs.Builders.{takes-closing}
use Rattle.yxml.proofs.builder.Builder.close.Goals as goal

pub returns : goal.returns
returns c = on_ok_weaker c.push.result
    (λ e. takes-closing c.args.self.now c.end_text.new.self _ c.in-Some.frame c.replace-body.result _ c.in_ok-end_text.ensures c.in-Some.ensures
    c.replace-body.ensures.value c.replace-body.ensures.after e refl) c.push.ensures.ok
