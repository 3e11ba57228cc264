-- What a list tells of the replies that were sent (this project's own).
use Rattle.std.specs.Prelude.{◌≡◌, ℕ, List, ◌++◌, length, map, reverse}
use Rattle.language.specs.Lang.{Lang}
use Rattle.reply_outbox.specs.Items.{lengths_sent}
use Rattle.session_rules.specs.declared.service.Service.{Service}
use Rattle.keeping_rules.specs.Items.{SessionItem, heard_in}
use Rattle.keeping_rules.specs.Pieces.{pieces}

-- what was sent is a front of the replies, the oldest first, each of the length that is told
pub record IsFrontSent {S : Type 0} (l : Lang S) (service : Service) (items : List SessionItem)
    : Type 0 where
  pub sent : List (List ℕ)
  pub waiting : List (List ℕ)
  pub front : pieces l service (heard_in service items) ≡ sent ++ waiting
  pub lengths : map length sent ≡ reverse (lengths_sent items)
