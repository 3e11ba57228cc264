-- Elements, one after the other.
use Rattle.std.specs.List.{AllByRecursion, flat_map}
use Rattle.reply_messages.specs.Fits.{FitsReport}
use Rattle.reply_messages.specs.Replies.{reports_chunk}
use Rattle.reply_messages.proofs.Alike.{if_ok, found_alike}
use Rattle.reply_messages.proofs.OneChunk.{reports_are}
use Rattle.reply_messages.proofs.ReadReports.{report_bytes, reports_are_elements}
use Rattle.reply_messages.proofs.read_chunk.reports_at.Goals as goal

pub all_of-requires : goal.all_of-requires
all_of-requires c = record { elements = reports_are_elements }

pub returns : goal.returns
returns c = if_ok _ _ c.all_of.result (found_alike (flat_map report_bytes) reports_chunk (AllByRecursion FitsReport) reports_are c.args.chunk.now) c.all_of.ensures
