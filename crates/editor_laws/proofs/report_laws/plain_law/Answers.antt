use Rattle.editor_laws.proofs.PlainReports.{plain_at, fits_at}
use Rattle.editor_laws.proofs.report_laws.plain_law.Goals as goal

pub returns-clause-plain : goal.returns-clause-plain
returns-clause-plain c = plain_at c.one_header.ensures.just c.one_answer.ensures.has

pub returns-clause-fits : goal.returns-clause-fits
returns-clause-fits c = fits_at c.one_header.ensures.just c.one_answer.ensures.has
