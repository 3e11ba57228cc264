-- What contracts see of a core (this project's own).
use Rattle.std.specs.Prelude.{ℕ, List}
use Rattle.core_rules.specs.declared.event.Event.{Event}

-- how many more versions, executions, tasks beside the forks of all that is held, and inputs of
-- tasks fit without memory
pub record Room : Type 0 where
  pub versions : ℕ
  pub executions : ℕ
  pub tasks : ℕ
  pub links : ℕ

-- all that has happened, the newest first, and the room
pub record CoreState : Type 0 where
  pub past : List Event
  pub room : Room
