-- What an item says of work and of sending (this project's own).
use Rattle.reply_outbox.specs.declared.item.Item.TheVariants as item
use Rattle.session_rules.specs.declared.entry.Entry.{Entry}
use Rattle.session_rules.specs.declared.entry.Entry.TheVariants as entry
use Rattle.keeping_rules.specs.Items.{SessionItem}
use Rattle.worker_loop.specs.declared.said.Said.{Said}
use Rattle.worker_loop.specs.declared.said.Said.TheVariants as said

-- what an entry says
abbrev pub entry_says : Entry → Said
entry_says (entry.Call message) = said.Other
entry_says (entry.Claimed who part) = said.Claimed part
entry_says (entry.Finished who part) = said.Finished part
entry_says (entry.Dropped who part) = said.Dropped part
entry_says entry.Ended = said.Ended

-- what an item says
abbrev pub says : SessionItem → Said
says (item.Opened service) = said.Other
says (item.Made entry) = entry_says entry
says (item.Sent writer len) = said.Sent
says (item.Lost writer) = said.Lost
