use Rattle.editor_laws.proofs.SheetNodes.{sheets_headed}
use Rattle.editor_laws.proofs.report_laws.sheets_law.Goals as goal

pub returns : goal.returns
returns c = sheets_headed c.one_header.ensures.just
