-- Nodes, blobs and aliases may go to another thread, and be looked at by several.
use denote.Param.Send.{IsSend, IsSync}
use Rattle.text_edits.specs.contracts.text.Text as text
use Rattle.pide_base.specs.contracts.node_name.NodeName as name
use Rattle.outer_syntax.specs.contracts.parts.KeywordPair as pair
use Rattle.doc_nodes.specs.contracts.blob_name.BlobName as blob_name
use Rattle.doc_nodes.specs.contracts.alias.Aliases as aliases
use Rattle.doc_nodes.specs.contracts.node.Entry as entry
use Rattle.doc_nodes.specs.contracts.node.Node as node
use Rattle.thread_serve.proofs.CrossingLists.{lists}

pub text_send : IsSend text.the_row
text_send = search lists depth 40

pub text_sync : IsSync text.the_row
text_sync = search lists depth 40

pub name_send : IsSend name.the_row
name_send = search lists depth 40

pub name_sync : IsSync name.the_row
name_sync = search lists depth 40

pub blob_name_send : IsSend blob_name.the_row
blob_name_send = search (name_send, lists) depth 40

pub blob_name_sync : IsSync blob_name.the_row
blob_name_sync = search (name_sync, lists) depth 40

pub aliases_send : IsSend aliases.the_row
aliases_send = search lists depth 40

pub aliases_sync : IsSync aliases.the_row
aliases_sync = search lists depth 40

entry_send : IsSend entry.the_row
entry_send = search (blob_name_send, lists) depth 40

entry_sync : IsSync entry.the_row
entry_sync = search (blob_name_sync, lists) depth 40

pair_send : IsSend pair.the_row
pair_send = search lists depth 40

pair_sync : IsSync pair.the_row
pair_sync = search lists depth 40

ruleset parts = (text_send, text_sync, entry_send, entry_sync, pair_send, pair_sync, lists)

pub node_send : IsSend node.the_row
node_send = search parts depth 40

pub node_sync : IsSync node.the_row
node_sync = search parts depth 40

pub ruleset nodes = (
  text_send,
  text_sync,
  name_send,
  name_sync,
  blob_name_send,
  blob_name_sync,
  aliases_send,
  aliases_sync,
  node_send,
  node_sync,
  lists,
)
