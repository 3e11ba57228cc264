-- The last value gets the next number.
use Rattle.std.proofs.Common.{ap, ◌∙◌, decimal}
use Rattle.xml_codec.proofs.Numbered.{number_last}
use Rattle.xml_codec.proofs.variant.numbered.Goals as goal

pub loop-value-preserved : goal.loop-value-preserved
loop-value-preserved c = number_last _ _ _ _ _ _ c.loop-value.invariant c.in-Some.ensures c.in_ok-push.ensures.items
    (c.in_ok-key.ensures ∙ ap decimal c.len.ensures)
