-- The callers that take turns at a session (this project's own): the reader is caller 0, the
-- workers come after it, and the writer after them.
use Rattle.std.specs.Prelude.{ℕ, List, [], ◌∷◌}
use Rattle.reply_outbox.specs.declared.item.Item.TheVariants as item
use Rattle.session_rules.specs.declared.entry.Entry.{Entry}
use Rattle.session_rules.specs.declared.entry.Entry.TheVariants as entry
use Rattle.session_rules.specs.declared.service.Service.{Service}
use Rattle.session_rules.specs.declared.service.Service.TheVariants.{Workers}
use Rattle.keeping_rules.specs.Items.{SessionItem}

-- how many workers an item opens a list for
abbrev pub workers_of : SessionItem → ℕ
workers_of (item.Opened (Workers count)) = count
workers_of other = 0

-- how many workers there are, by the oldest item
abbrev pub worker_count : List SessionItem → ℕ
worker_count [] = 0
worker_count (oldest ∷ log) = workers_of oldest

-- how the session is served
abbrev pub service_of : List SessionItem → Service
service_of log = Workers (worker_count log)

-- who makes an entry: the worker that it names, else the reader
abbrev pub maker : Entry → ℕ
maker (entry.Claimed who part) = who
maker (entry.Finished who part) = who
maker (entry.Dropped who part) = who
maker other = 0

-- whose an item is: the writer is named, and the list is opened by the reader
abbrev pub whose : SessionItem → ℕ
whose (item.Opened service) = 0
whose (item.Made entry) = maker entry
whose (item.Sent writer len) = writer
whose (item.Lost writer) = writer
