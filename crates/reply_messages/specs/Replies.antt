-- The chunks of replies (this project's own).
use Rattle.std.specs.Prelude.{ℕ, Bool, true, false, List, [], ◌∷◌, map, codes, decimal}
use Rattle.yxml.specs.Spelling.{yxml}
use Rattle.xml_codec.specs.Data.{list_body}
use Rattle.pide_base.specs.declared.part.PartKind.{PartKind}
use Rattle.pide_base.specs.declared.part.PartKind.TheVariants.{Eval, Fork, Print}
use Rattle.report_markup.specs.declared.report.Report.{Report}
use Rattle.report_markup.specs.Element.{element}
use Rattle.message_values.specs.ShapeBodies.{number_body}
use Rattle.message_values.specs.Protocols.{protocol_number}
use Rattle.message_values.specs.Refusals.{refusal_number}
use Rattle.reply_messages.specs.declared.told.NodeRows.{NodeRows}
use Rattle.reply_messages.specs.declared.told.Told.{Told}
use Rattle.reply_messages.specs.declared.told.Told.TheVariants as tells
use Rattle.reply_messages.specs.Bodies.{node_body}

-- the word of a part of an execution
abbrev pub part_word : PartKind → List ℕ
part_word Eval = codes "eval"
part_word Fork = codes "fork"
part_word Print = codes "print"

-- the word of a truth value
abbrev pub flag_word : Bool → List ℕ
flag_word true = codes "1"
flag_word false = codes "0"

-- a list of ids, as data
abbrev pub ids_chunk : List ℕ → List ℕ
ids_chunk ids = yxml (list_body (map number_body ids))

-- a list of nodes with their rows, as data
abbrev pub nodes_chunk : List NodeRows → List ℕ
nodes_chunk nodes = yxml (list_body (map node_body nodes))

-- reports, one after the other: a plain body
abbrev pub reports_chunk : List Report → List ℕ
reports_chunk reports = yxml (map element reports)

-- a reply's chunks: its word, and what it tells
abbrev pub reply_chunks : Told → List (List ℕ)
reply_chunks (tells.Assign version nodes) =
    codes "assign" ∷ decimal version ∷ nodes_chunk nodes ∷ []
reply_chunks (tells.Markup version node reports pending outdated) =
    codes "markup" ∷ decimal version ∷ node ∷ reports_chunk reports ∷ ids_chunk pending
    ∷ flag_word outdated ∷ []
reply_chunks (tells.Cancelled exec) = codes "cancelled" ∷ decimal exec ∷ []
reply_chunks (tells.Idle exec) = codes "idle" ∷ decimal exec ∷ []
reply_chunks (tells.Removed versions) = codes "removed" ∷ ids_chunk versions ∷ []
reply_chunks (tells.Settled version stuck) =
    codes "settled" ∷ decimal version ∷ ids_chunk stuck ∷ []
reply_chunks (tells.Protocol protocol) =
    codes "protocol" ∷ decimal (protocol_number protocol) ∷ []
reply_chunks (tells.Refused reason) = codes "refused" ∷ decimal (refusal_number reason) ∷ []
reply_chunks (tells.Claimed worker part) =
    codes "claimed" ∷ decimal worker ∷ decimal part.exec ∷ part_word part.kind ∷ []
reply_chunks (tells.Report part reports) =
    codes "report" ∷ decimal part.exec ∷ part_word part.kind ∷ reports_chunk reports ∷ []
reply_chunks (tells.Dropped part) = codes "dropped" ∷ decimal part.exec ∷ part_word part.kind ∷ []
reply_chunks (tells.Built node reports) = codes "built" ∷ node ∷ reports_chunk reports ∷ []
reply_chunks (tells.Total nodes errors) = codes "total" ∷ decimal nodes ∷ decimal errors ∷ []
