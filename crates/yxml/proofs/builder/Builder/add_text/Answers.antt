-- The text joins the one that goes on.
use Rattle.std.proofs.Common.{subst, sym, ◌∷◌, []}
use Rattle.std.proofs.lemmas.Result.{on_ok_weaker}
use Rattle.yxml.specs.Marks.{words}
use Rattle.yxml.specs.Builder.{HasRead}
use Rattle.yxml.proofs.Builders.{takes-text}
use Rattle.yxml.proofs.builder.Builder.add_text.Goals as goal

pub returns : goal.returns
returns c = on_ok_weaker c.push_str.result
    (λ e. subst (λ t. HasRead c.args.self.now (record c.args.self.now { text = t }) (words c.args.text.now ∷ [])) (sym e)
    (takes-text c.args.self.now c.args.text.now c.requires)) c.push_str.ensures.ok
