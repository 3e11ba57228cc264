use Rattle.editor_laws.proofs.HeaderNames.{header_named}
use Rattle.editor_laws.proofs.report_laws.header_law.Goals as goal

pub returns : goal.returns
returns c = header_named c.one_header.ensures.just
