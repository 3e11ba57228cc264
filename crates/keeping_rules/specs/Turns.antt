-- How a part that a worker held ends (this project's own).
use Rattle.std.specs.Prelude.{ℕ}
use Rattle.pide_base.specs.declared.part.Part.{Part}
use Rattle.session_replies.specs.prover_core_below.declared.finishing.Finish.{Finish}
use Rattle.session_replies.specs.prover_core_below.declared.finishing.Finish.TheVariants as finish
use Rattle.reply_messages.specs.declared.told.Told.{Told}
use Rattle.reply_messages.specs.declared.told.Told.TheVariants as tells
use Rattle.session_rules.specs.declared.entry.Entry.{Entry}
use Rattle.session_rules.specs.declared.entry.Entry.TheVariants as entry
use Rattle.session_replies.specs.Works.{WorkDone, work_report}

-- the entry by which it ends
abbrev pub entry_of : Finish → ℕ → Part → Entry
entry_of finish.Finished who part = entry.Finished who part
entry_of finish.Dropped who part = entry.Dropped who part

-- what is told of it
abbrev pub finish_reply : {S : Type 0} → Finish → WorkDone S → Told
finish_reply finish.Finished work = work_report work
finish_reply finish.Dropped work = tells.Dropped work.done.part
