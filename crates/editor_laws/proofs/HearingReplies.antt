-- Replies of a legal history can be heard, where their chunks are short.
use Rattle.std.proofs.Common.{◌≤◌, List, [], ◌∷◌, length, arith}
use Rattle.std.specs.List.{AllByRecursion}
use Rattle.text_words.proofs.KnownLists.{each-both}
use Rattle.byte_message.specs.Limits.{most_chunks}
use Rattle.language.specs.Lang.{Lang}
use Rattle.reply_messages.specs.FoundReplies.{IsReply}
use Rattle.reply_messages.specs.declared.told.Told.{Told}
use Rattle.reply_messages.specs.declared.told.Told.TheVariants as tells
use Rattle.reply_messages.specs.Replies.{reply_chunks}
use Rattle.session_rules.specs.declared.entry.Entry.{Entry}
use Rattle.session_rules.specs.declared.service.Service.{Service}
use Rattle.session_rules.specs.Heard.{all_heard, heard}
use Rattle.session_rules.specs.Legal.{IsLegal}
use Rattle.session_rules.specs.Replies.{entry_replies}
use Rattle.mirror_rules.specs.Events.{MirrorEvent}
use Rattle.mirror_rules.specs.Moves.{Move}
use Rattle.editor_laws.specs.Streams.{CanBeHeard, FollowsBytes, all_replies}
use Rattle.editor_laws.specs.Heard.{AreMessages, FollowsMessages, IsShort}
use Rattle.editor_laws.proofs.ReadCalls.{AskedLaw, all_sound}
use Rattle.editor_laws.proofs.HistoryLaws.{HistoryLaws}
use Rattle.editor_laws.proofs.Replying.{told_readable}

few_chunks : (t : Told) → length (reply_chunks t) ≤ most_chunks
few_chunks (tells.Assign version nodes) = omega arith
few_chunks (tells.Markup version node reports pending outdated) = omega arith
few_chunks (tells.Cancelled exec) = omega arith
few_chunks (tells.Idle exec) = omega arith
few_chunks (tells.Removed versions) = omega arith
few_chunks (tells.Settled version stuck) = omega arith
few_chunks (tells.Protocol protocol) = omega arith
few_chunks (tells.Refused reason) = omega arith
few_chunks (tells.Claimed worker part) = omega arith
few_chunks (tells.Report part reports) = omega arith
few_chunks (tells.Dropped part) = omega arith
few_chunks (tells.Built node reports) = omega arith
few_chunks (tells.Total nodes errors) = omega arith

some_chunks : (t : Told) → 1 ≤ length (reply_chunks t)
some_chunks (tells.Assign version nodes) = omega arith
some_chunks (tells.Markup version node reports pending outdated) = omega arith
some_chunks (tells.Cancelled exec) = omega arith
some_chunks (tells.Idle exec) = omega arith
some_chunks (tells.Removed versions) = omega arith
some_chunks (tells.Settled version stuck) = omega arith
some_chunks (tells.Protocol protocol) = omega arith
some_chunks (tells.Refused reason) = omega arith
some_chunks (tells.Claimed worker part) = omega arith
some_chunks (tells.Report part reports) = omega arith
some_chunks (tells.Dropped part) = omega arith
some_chunks (tells.Built node reports) = omega arith
some_chunks (tells.Total nodes errors) = omega arith

heard_all : (ts : List Told) → AllByRecursion IsReply ts → AllByRecursion IsShort ts
    → AllByRecursion CanBeHeard ts
heard_all [] replies short = tt
heard_all (t ∷ ts) replies short = (
  record {
    message = record { some = some_chunks t; few = few_chunks t; short = short.0 };
    reply = replies.0;
  },
  heard_all ts replies.1 short.1,
)

module _ {S : Type 0} (l : Lang S) (laws : HistoryLaws l) (asked : AskedLaw)
    (service : Service) where
  pub all_readable : (history : List Entry) → IsLegal l service (all_heard service history)
      → AreMessages history
      → AllByRecursion IsReply (all_replies l service history)
  all_readable [] legal are = tt
  all_readable (e ∷ h) legal are =
      each-both IsReply (all_replies l service h) (entry_replies l service (all_heard service h)
      (heard service e)) (all_readable h legal.0 are.1)
      (told_readable l laws service (heard service e) (all_heard service h) legal
      (all_sound asked service (e ∷ h) are))

-- an editor that follows so follows by bytes
pub follows_bytes : {S : Type 0} (l : Lang S) (service : Service)
    → ((history : List Entry) → IsLegal l service (all_heard service history) → AreMessages history
    → AllByRecursion IsReply (all_replies l service history))
    → (history : List Entry) (events : List MirrorEvent) (moves : List Move)
    → FollowsMessages l service history events moves → FollowsBytes l service history events moves
follows_bytes l service readable history events moves f = record {
  legal = f.legal;
  alone = f.alone;
  replies = heard_all (all_replies l service history) (readable history f.legal f.calls) f.short;
  time = f.time;
  heard = f.heard;
}
