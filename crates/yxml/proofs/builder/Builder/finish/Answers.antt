-- No frame is left.
use Rattle.yxml.proofs.Builders.{all-marks}
use Rattle.yxml.proofs.builder.Builder.finish.Goals as goal

pub returns : goal.returns
returns c = all-marks c.args.self _ c.in_ok-end_text.ensures c.requires
