-- Lists of items as callers see them, the oldest item first (this project's own).
use Rattle.std.specs.Prelude.{ℕ, List, reverse}
use Rattle.language.specs.Lang.{Lang}
use Rattle.reply_outbox.specs.Items.{entries}
use Rattle.session_rules.specs.declared.entry.Entry.{Entry}
use Rattle.session_rules.specs.Session.{Session}
use Rattle.keeping_rules.specs.Items.{SessionItem, heard_in, session_in}
use Rattle.keeping_rules.specs.Legal.{AreLegal}
use Rattle.keeping_rules.specs.Pieces.{pieces}
use Rattle.view_laws.specs.Callers.{service_of}

-- its entries, the newest first
abbrev pub history : List SessionItem → List Entry
history log = entries (reverse log)

module _ {S : Type 0} (l : Lang S) where
  -- the list is a legal one of a session that workers serve
  abbrev pub IsLegalLog : List SessionItem → Type 0
  IsLegalLog log = AreLegal l (service_of log) (reverse log)

  -- what the session has after it
  abbrev pub session_after : List SessionItem → Session
  session_after log = session_in l (service_of log) (reverse log)

  -- all replies to its entries, the oldest first
  abbrev pub replies_after : List SessionItem → List (List ℕ)
  replies_after log = pieces l (service_of log) (heard_in (service_of log) (reverse log))
