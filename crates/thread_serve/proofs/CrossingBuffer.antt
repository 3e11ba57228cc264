-- The document as the editor has it may go to another thread.
use denote.Param.Send.{IsSend, IsSync}
use Rattle.command_spans.specs.contracts.names.Names as names
use Rattle.command_spans.specs.contracts.text_spans.Spans as spans
use Rattle.buffer_rules.specs.contracts.sheet.Sheet as sheet
use Rattle.editor_buffer.specs.contracts.open_node.OpenNode as open_node
use Rattle.editor_buffer.specs.contracts.buffer.Buffer as buffer
use Rattle.thread_serve.proofs.CrossingNodes.{nodes}

names_send : IsSend names.the_row
names_send = search nodes depth 40

names_sync : IsSync names.the_row
names_sync = search nodes depth 40

spans_send : IsSend spans.the_row
spans_send = search (names_send, nodes) depth 40

spans_sync : IsSync spans.the_row
spans_sync = search (names_sync, nodes) depth 40

sheet_send : IsSend sheet.the_field.row
sheet_send = search nodes depth 40

sheet_sync : IsSync sheet.the_field.row
sheet_sync = search nodes depth 40

open_node_send : IsSend open_node.the_row
open_node_send = search (sheet_send, spans_send, spans_sync, nodes) depth 40

open_node_sync : IsSync open_node.the_row
open_node_sync = search (sheet_sync, spans_send, spans_sync, nodes) depth 40

pub buffer_send : IsSend buffer.the_row
buffer_send = search (open_node_send, open_node_sync, nodes) depth 40
