use Rattle.std.proofs.Common.{arith}
use Rattle.std.proofs.lemmas.Str.Pattern.{strip_prefix_char}
use Rattle.xml_codec.proofs.number.after_minus.Goals as goal

pub returns : goal.returns
returns c = strip_prefix_char 45 _ _ c.strip_prefix.ensures.cases (omega arith)
