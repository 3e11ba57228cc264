-- The replies of a history one by one (this project's own).
use Rattle.std.specs.Prelude.{◌≡◌, ℕ, List, [], ◌∷◌, ◌++◌, map, length}
use Rattle.language.specs.Lang.{Lang}
use Rattle.reply_outbox.specs.Items.{lengths_sent}
use Rattle.session_rules.specs.declared.service.Service.{Service}
use Rattle.session_rules.specs.Heard.{Heard}
use Rattle.session_rules.specs.Replies.{entry_replies}
use Rattle.session_replies.specs.Spelling.{reply_spelling}
use Rattle.keeping_rules.specs.Items.{SessionItem}

-- the replies to entries, the oldest first
abbrev pub pieces : {S : Type 0} → Lang S → Service → List Heard → List (List ℕ)
pieces l service [] = []
pieces l service (e ∷ h) = pieces l service h ++ map reply_spelling (entry_replies l service h e)

-- some replies were sent, as many as the items tell, and these wait
pub record AreWaiting (all : List (List ℕ)) (items : List SessionItem) (waiting : List (List ℕ))
    : Type 0 where
  pub gone : List (List ℕ)
  pub replies : all ≡ gone ++ waiting
  pub count : length gone ≡ length (lengths_sent items)
