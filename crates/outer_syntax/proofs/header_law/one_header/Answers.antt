use Rattle.outer_syntax.proofs.HeaderLaws.{one-header, header-apart, header-either, header-just, header-none}
use Rattle.outer_syntax.proofs.header_law.one_header.Goals as goal

pub returns : goal.returns
returns c = record { just = header-just; none = header-none; either = header-either; one = one-header; apart = header-apart }
