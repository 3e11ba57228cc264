-- The name is cut at its first dot, and what is behind it at its own first dot.
use Rattle.std.proofs.Common.{◌∙◌, ◌∷◌, ap}
use Rattle.theory_ctx.proofs.Parts.{parts_of-uncut, parts_of-cut, three_parts}
use Rattle.theory_ctx.proofs.cited.Cited.new.Goals as goal

pub returns-in-None : goal.returns-in-None
returns-in-None c = parts_of-uncut _ _ c.split_once.ensures.cases c.in-None.is

pub returns-in-None-split_once : goal.returns-in-None-split_once
returns-in-None-split_once c =
    parts_of-cut _ _ _ _ c.split_once.ensures.cases c.in-Some.is
    ∙ ap (λ parts. c.in-Some.theory.now ∷ parts) (parts_of-uncut _ _ c.split_once-in-Some.ensures.cases c.in-None-split_once.is)

pub returns-in-Some-split_once : goal.returns-in-Some-split_once
returns-in-Some-split_once c =
    three_parts c.args.text.now c.in-Some.rest.now c.in-Some.theory.now _ _ _
    (parts_of-cut _ _ _ _ c.split_once.ensures.cases c.in-Some.is) c.split_once-in-Some.ensures.cases c.in-Some-split_once.is
