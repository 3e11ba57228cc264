-- The items of a session's list: how it is served, its entries, and what the writer did (this
-- project's own).
use Rattle.std.specs.Prelude.{ℕ, ◌+◌, List}
use Rattle.reply_outbox.specs.declared.item.Item.{Item}
use Rattle.reply_outbox.specs.Items.{entries}
use Rattle.message_values.specs.Workers.{most_workers}
use Rattle.language.specs.Lang.{Lang}
use Rattle.session_rules.specs.declared.entry.Entry.{Entry}
use Rattle.session_rules.specs.declared.service.Service.{Service}
use Rattle.session_rules.specs.declared.service.Service.TheVariants.{Workers, Script}
use Rattle.session_rules.specs.Heard.{Heard, all_heard}
use Rattle.session_rules.specs.History.{session}
use Rattle.session_rules.specs.Session.{Session}

-- an item of a session's list
abbrev pub SessionItem : Type 0
SessionItem = Item Service Entry

-- its history, the newest entry first
abbrev pub heard_in : Service → List SessionItem → List Heard
heard_in service items = all_heard service (entries items)

-- what the session has after it
abbrev pub session_in : {S : Type 0} → Lang S → Service → List SessionItem → Session
session_in l service items = session l service (heard_in service items)

-- the writer's number: it comes after those of the workers
abbrev pub writer_of : Service → ℕ
writer_of (Workers count) = count + 1
writer_of Script = most_workers + 1
