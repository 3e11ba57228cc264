-- What replies make of what an editor knows.
use Rattle.std.specs.Prelude.{if◌then◌else◌, List, [], ◌∷◌, map, Option, Some, None, Ok}
use Rattle.pide_base.specs.declared.part.Part.{Part}
use Rattle.report_markup.specs.declared.report.Report.{Report}
use Rattle.core_tables.specs.declared.versions.Live.{Live}
use Rattle.core_tables.specs.declared.versions.Removing.TheVariants as answer
use Rattle.core_tables.specs.Removal.{left}
use Rattle.message_values.specs.declared.editor_message.EditorMessage.TheVariants as asks
use Rattle.message_values.specs.declared.mode.Mode.{Mode}
use Rattle.message_values.specs.declared.mode.Mode.TheVariants as mode
use Rattle.reply_messages.specs.declared.told.Told.{Told}
use Rattle.reply_messages.specs.declared.told.Told.TheVariants as tells
use Rattle.mirror_rules.specs.Images.{Image, Mirror}
use Rattle.mirror_rules.specs.Reports.{PartReport, with_report}
use Rattle.mirror_rules.specs.Updates.{buffer_after, after_update}
use Rattle.mirror_rules.specs.Answers.{Read}
use Rattle.mirror_rules.specs.Unexpected.{is_unexpected}

-- what is unanswered once a part is finished or dropped: in a script that answers a finish
abbrev pub without_finish : Mode → List Read → List Read
without_finish mode.Replay (Ok (asks.Finish worker) ∷ more) = more
without_finish any reads = reads

-- a step of some worker was told
abbrev pub after_step : Mode → Mirror → Mirror
after_step mode m = record m { unanswered = without_finish mode m.unanswered }

-- a live version with what is finished by a report
abbrev pub live_with : PartReport → Live Image → Live Image
live_with told one = record one { version = with_report told one.version }

-- so for every version
abbrev pub after_report : Mirror → Part → List Report → Mirror
after_report m part reports =
    let told : PartReport =
    record { protocol = m.protocol; part = part; reports = reports } in
    record m { live = map (live_with told) m.live; tip = with_report told m.tip }

-- a message has its reply: an update makes a version, versions go, or the protocol is another
abbrev pub after_answer : Mirror → Read → Told → Mirror
after_answer m (Ok (asks.Update version items blobs)) (tells.Assign id listed) =
    after_update m version listed (buffer_after m version (record { items = items; blobs = blobs }))
after_answer m (Ok (asks.RemoveVersions versions)) (tells.Removed ids) =
    record m { live = left answer.Removed ids m.live }
after_answer m (Ok (asks.Protocol protocol)) (tells.Protocol told) = record m { protocol = told }
after_answer m read told = m

-- the reply is for the first of the unanswered messages
abbrev pub after_first_answer : Mirror → List Read → Told → Mirror
after_first_answer m [] told = m
after_first_answer m (read ∷ more) told = after_answer (record m { unanswered = more }) read told

-- after a reply that is expected
abbrev pub after_reply : Mode → Mirror → Told → Mirror
after_reply mode m (tells.Report part reports) = after_step mode (after_report m part reports)
after_reply mode m (tells.Dropped part) = after_step mode m
after_reply mode m told = after_first_answer m m.unanswered told

-- after a reply, or what was no reply; nothing where it is unexpected
abbrev pub mirror_after : Mode → Mirror → Option Told → Option Mirror
mirror_after mode m None = None
mirror_after mode m (Some told) =
    if is_unexpected m (Some told) then None else Some (after_reply mode m told)
