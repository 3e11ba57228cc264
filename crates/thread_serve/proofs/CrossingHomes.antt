-- Versions, and what executions go by, may go to another thread, and be looked at by several.
use denote.Param.Send.{IsSend, IsSync}
use Rattle.exec_rules.specs.contracts.key.Key as key
use Rattle.exec_rules.specs.contracts.home.Head as head
use Rattle.exec_rules.specs.contracts.home.Home as home
use Rattle.exec_rules.specs.contracts.row.Assigned as assigned
use Rattle.exec_rules.specs.contracts.version.Version as version
use Rattle.thread_serve.proofs.CrossingNodes.{nodes}

key_send : IsSend key.the_row
key_send = search nodes depth 40

key_sync : IsSync key.the_row
key_sync = search nodes depth 40

pub head_send : IsSend head.the_row
head_send = search (key_send, key_sync, nodes) depth 40

pub head_sync : IsSync head.the_row
head_sync = search (key_send, key_sync, nodes) depth 40

pub home_send : IsSend home.the_row
home_send = search (head_send, head_sync, nodes) depth 40

pub home_sync : IsSync home.the_row
home_sync = search (head_send, head_sync, nodes) depth 40

assigned_send : IsSend assigned.the_row
assigned_send = search (key_send, key_sync, nodes) depth 40

assigned_sync : IsSync assigned.the_row
assigned_sync = search (key_send, key_sync, nodes) depth 40

pub version_send : IsSend version.the_row
version_send = search (assigned_send, assigned_sync, nodes) depth 40

pub version_sync : IsSync version.the_row
version_sync = search (assigned_send, assigned_sync, nodes) depth 40

pub ruleset heads = (head_send, head_sync, nodes)

pub ruleset versions = (home_send, home_sync, version_send, version_sync)
