-- What contracts see of a session at which callers take turns (this project's own).
use Rattle.std.specs.Prelude.{ℕ, List}
use Rattle.document_session.specs.keeping_rules_below.Items.{SessionItem}

-- its items, the oldest first, and the replies that wait, the oldest first
pub record SharedState : Type 0 where
  pub log : List SessionItem
  pub waiting : List (List ℕ)
