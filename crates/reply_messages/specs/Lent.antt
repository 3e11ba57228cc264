-- What a reply tells that lends it.
use Rattle.std.specs.Prelude.{ℕ, List, [], ◌∷◌, map}
use Rattle.report_markup.specs.declared.report.Report.{Report}
use Rattle.snapshots.specs.Seen.{seen}
use Rattle.reply_messages.specs.declared.reply.AssignedNode.{AssignedNode}
use Rattle.reply_messages.specs.declared.reply.AssignedRow.{AssignedRow}
use Rattle.reply_messages.specs.declared.reply.Executions.{Executions}
use Rattle.reply_messages.specs.declared.reply.Executions.TheVariants.{Unassigned, Evaluated, Printed}
use Rattle.reply_messages.specs.declared.reply.Reply.{Reply}
use Rattle.reply_messages.specs.declared.reply.Reply.TheVariants as lends
use Rattle.reply_messages.specs.declared.reply.Reports.{Reports}
use Rattle.reply_messages.specs.declared.reply.Reports.TheVariants.{Own, Shown}
use Rattle.reply_messages.specs.declared.told.CommandRow.{CommandRow}
use Rattle.reply_messages.specs.declared.told.NodeRows.{NodeRows}
use Rattle.reply_messages.specs.declared.told.Told.{Told}
use Rattle.reply_messages.specs.declared.told.Told.TheVariants as tells

-- a command's executions as a list
abbrev pub executions_of : Executions → List ℕ
executions_of Unassigned = []
executions_of (Evaluated evaluation) = evaluation ∷ []
executions_of (Printed evaluation print) = evaluation ∷ print ∷ []

-- a row
abbrev pub row_of : AssignedRow → CommandRow
row_of r = record { command = r.command; executions = executions_of r.executions }

-- a node with its rows
abbrev pub rows_of : AssignedNode → NodeRows
rows_of n = record { node = n.node.now; rows = map row_of n.rows.now }

-- reports, each at the range where it is told
abbrev pub reports_of : Reports → List Report
reports_of (Own reports) = reports.now
reports_of (Shown reports) = map seen reports.now

-- what the reply tells
abbrev pub told_reply : Reply → Told
told_reply (lends.Assign version nodes) = tells.Assign version (map rows_of nodes.now)
told_reply (lends.Markup version node reports pending outdated) =
    tells.Markup version node.now (reports_of reports) pending.now outdated
told_reply (lends.Cancelled exec) = tells.Cancelled exec
told_reply (lends.Idle exec) = tells.Idle exec
told_reply (lends.Removed versions) = tells.Removed versions.now
told_reply (lends.Settled version stuck) = tells.Settled version stuck.now
told_reply (lends.Protocol protocol) = tells.Protocol protocol
told_reply (lends.Refused reason) = tells.Refused reason
told_reply (lends.Claimed worker part) = tells.Claimed worker part
told_reply (lends.Report part reports) = tells.Report part (reports_of reports)
told_reply (lends.Dropped part) = tells.Dropped part
told_reply (lends.Built node reports) = tells.Built node.now (reports_of reports)
told_reply (lends.Total nodes errors) = tells.Total nodes errors
