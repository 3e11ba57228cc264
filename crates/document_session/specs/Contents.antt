-- What contracts see of a session (this project's own).
use Rattle.std.specs.Prelude.{ℕ, List}
use Rattle.session_rules.specs.declared.service.Service.{Service}
use Rattle.keeping_rules.specs.Items.{SessionItem}

-- how it is served, its items, the newest first, and the replies that wait, the oldest first
pub record SessionState : Type 0 where
  pub service : Service
  pub items : List SessionItem
  pub waiting : List (List ℕ)
