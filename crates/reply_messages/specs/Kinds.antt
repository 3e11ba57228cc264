-- The kinds of replies, by their words.
use Rattle.std.specs.Prelude.{ℕ, Bool, bytes_eq, List, [], ◌∷◌, Option, find, codes}
use Rattle.pide_base.specs.declared.part.Part.{Part}
use Rattle.report_markup.specs.declared.report.Report.{Report}
use Rattle.message_values.specs.declared.protocol.Protocol as protocol
use Rattle.message_values.specs.declared.refusal.Refusal.{Refusal}
use Rattle.reply_messages.specs.declared.told.NodeRows.{NodeRows}
use Rattle.reply_messages.specs.declared.told.Told.{Told}
use Rattle.reply_messages.specs.declared.told.Told.TheVariants as tells
use Rattle.reply_messages.specs.declared.kind.ReplyKind.{ReplyKind}
use Rattle.reply_messages.specs.declared.kind.ReplyKind.TheVariants.{Assign, Markup, Cancelled, Idle, Removed, Settled, Protocol, Refused, Claimed, Report as Reported, Dropped, Built, Total}

-- the word with which a reply begins (this project's own)
abbrev pub word : ReplyKind → List ℕ
word Assign = codes "assign"
word Markup = codes "markup"
word Cancelled = codes "cancelled"
word Idle = codes "idle"
word Removed = codes "removed"
word Settled = codes "settled"
word Protocol = codes "protocol"
word Refused = codes "refused"
word Claimed = codes "claimed"
word Reported = codes "report"
word Dropped = codes "dropped"
word Built = codes "built"
word Total = codes "total"

-- all kinds
abbrev pub kinds : List ReplyKind
kinds = Assign ∷ Markup ∷ Cancelled ∷ Idle ∷ Removed ∷ Settled ∷ Protocol ∷ Refused ∷ Claimed
    ∷ Reported ∷ Dropped ∷ Built ∷ Total ∷ []

-- the kind of a word
abbrev pub kind_named : List ℕ → Option ReplyKind
kind_named name = find (λ kind. bytes_eq (word kind) name) kinds

-- what a reply of the kind tells
abbrev pub Content : ReplyKind → Type 0
Content Assign = ℕ × List NodeRows
Content Markup = ℕ × List ℕ × List Report × List ℕ × Bool
Content Cancelled = ℕ
Content Idle = ℕ
Content Removed = List ℕ
Content Settled = ℕ × List ℕ
Content Protocol = protocol.Protocol
Content Refused = Refusal
Content Claimed = ℕ × Part
Content Reported = Part × List Report
Content Dropped = Part
Content Built = List ℕ × List Report
Content Total = ℕ × ℕ

-- the reply of the kind that tells it
abbrev pub reply_of : (kind : ReplyKind) → Content kind → Told
reply_of Assign (version, nodes) = tells.Assign version nodes
reply_of Markup (version, node, reports, pending, outdated) =
    tells.Markup version node reports pending outdated
reply_of Cancelled exec = tells.Cancelled exec
reply_of Idle exec = tells.Idle exec
reply_of Removed versions = tells.Removed versions
reply_of Settled (version, stuck) = tells.Settled version stuck
reply_of Protocol protocol = tells.Protocol protocol
reply_of Refused reason = tells.Refused reason
reply_of Claimed (worker, part) = tells.Claimed worker part
reply_of Reported (part, reports) = tells.Report part reports
reply_of Dropped part = tells.Dropped part
reply_of Built (node, reports) = tells.Built node reports
reply_of Total (nodes, errors) = tells.Total nodes errors
