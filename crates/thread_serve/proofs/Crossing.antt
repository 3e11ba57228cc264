-- A session that callers share may go to another thread where the language's states and the list
-- of what has happened may, and states may be looked at by several.
use denote.RattleType.{RattleType}
use denote.Param.Send.{IsSend, IsSync}
use Rattle.session_rules.specs.contracts.service.Service as service
use Rattle.session_rules.specs.contracts.entry.Entry as entry
use Rattle.language.specs.declared.language.Language as language
use Rattle.reply_outbox.specs.declared.past.Past as past
use Rattle.reply_outbox.specs.contracts.outbox.Outbox as outbox
use Rattle.document_session.specs.contracts.session.Session as session
use Rattle.thread_serve.specs.contracts.locked.Locked as locked
use Rattle.thread_serve.proofs.CrossingBuffer.{buffer_send}
use Rattle.thread_serve.proofs.CrossingCore.{core_send}
use Rattle.thread_serve.proofs.CrossingJobs.{session_job_send}
use Rattle.thread_serve.proofs.CrossingLists.{lists}

module _ (P : RattleType)
    (p : past.Ghosts P.Denot service.the_row.Denot entry.the_row.Denot) (s : IsSend P) where
  outbox_send : IsSend (outbox.the_row service.the_row entry.the_row P p)
  outbox_send = search lists depth 40

module _ (L P S : RattleType) (l : language.Ghosts L.Denot S.Denot)
    (p : past.Ghosts P.Denot service.the_row.Denot entry.the_row.Denot) where
  session_send : IsSend S → IsSync S → IsSend P → IsSend (session.the_row L P S l p)
  session_send s y i =
      search (buffer_send, core_send, session_job_send, outbox_send, lists) depth 40

  pub locked_send : IsSend S → IsSync S → IsSend P → IsSend (locked.the_row L P S l p)
  locked_send s y i = search (session_send, lists) depth 40
