-- The document of the prover's side may go to another thread where the language's states may, and
-- may be looked at by several.
use denote.RattleType.{RattleType}
use denote.Param.Send.{IsSend, IsSync}
use Rattle.http_server.proofs.log.Log.TheSendSync as logs
use Rattle.past_items.specs.contracts.ghost_list.GhostList as ghost_list
use Rattle.core_rules.specs.contracts.event.Event as event
use Rattle.version_losses.specs.contracts.losses.Losses as losses
use Rattle.update_plans.specs.contracts.known.Known as known
use Rattle.language.specs.declared.language.Language as language
use Rattle.document_session.specs.prover_core_below.contracts.prover.Core as core
use Rattle.thread_serve.proofs.CrossingHomes.{versions}
use Rattle.thread_serve.proofs.CrossingJobs.{done_send}
use Rattle.thread_serve.proofs.CrossingLists.{lists}
use Rattle.thread_serve.proofs.CrossingNodes.{nodes}
use Rattle.thread_serve.proofs.CrossingTasks.{tables}

event_send : IsSend event.the_row
event_send = search nodes depth 40

past_send : IsSend (ghost_list.the_row event.the_row)
past_send = search (event_send, logs.the_send, lists) depth 40

losses_send : IsSend losses.the_row
losses_send = search lists depth 40

known_send : IsSend known.the_row
known_send = search (versions, lists) depth 40

module _ (L S : RattleType) (l : language.Ghosts L.Denot S.Denot) where
  pub core_send : IsSend S → IsSync S → IsSend (core.the_row L S l)
  core_send s y =
      search (past_send, losses_send, known_send, done_send, tables, versions, lists) depth 40
