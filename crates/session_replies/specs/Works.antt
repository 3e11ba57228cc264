-- Jobs of a session, and what comes of them (this project's own).
use Rattle.std.specs.Prelude.{ℕ, List}
use Rattle.message_values.specs.declared.protocol.Protocol.{Protocol}
use Rattle.reply_messages.specs.declared.told.Told.{Told}
use Rattle.reply_messages.specs.declared.told.Told.TheVariants as tells
use Rattle.core_jobs.specs.declared.done.Done.{Done}
use Rattle.core_jobs.specs.Jobs.{JobContent}
use Rattle.session_rules.specs.Shown.{protocol_reports}

-- a job, and the protocol by which its reports are told
pub record Work (S : Type 0) : Type 0 where
  pub job : JobContent S
  pub protocol : Protocol

-- what came of a part, with its command's source and the protocol
pub record WorkDone (S : Type 0) : Type 0 where
  pub done : Done S
  pub source : List ℕ
  pub protocol : Protocol

-- the reply that tells the part's reports
abbrev pub work_report : {S : Type 0} → WorkDone S → Told
work_report work = tells.Report work.done.part
    (protocol_reports work.protocol work.source work.done.reports)
