use Rattle.core_jobs.specs.Jobs.{setting_of}
use Rattle.session_rules.specs.Session.{document}
use Rattle.session_replies.proofs.SourcesTold.{source_is}
use Rattle.session_replies.proofs.laws.report_law.Goals as goal

pub returns-clause-source : goal.returns-clause-source
returns-clause-source g c = λ s job fits.
    let l = g.L.Language.lang in source_is l (document l s).homes job.part.exec (setting_of l job) fits
