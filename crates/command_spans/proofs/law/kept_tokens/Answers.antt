use Rattle.command_spans.proofs.KeptLaws.{moved-converts, kept}
use Rattle.command_spans.proofs.law.kept_tokens.Goals as goal

pub returns : goal.returns
returns c = record { kept = kept; converted = moved-converts }
