-- The order of parts, and how they stand where one of them changes.
use Rattle.std.proofs.Common.{◌≡◌, ◌≢◌, ℕ, true, false, Option, arith}
use Rattle.core_tables.specs.declared.priority.Priority.{Priority}
use Rattle.core_tables.specs.declared.task.Standing.{Standing}
use Rattle.core_tables.specs.Order.{goes_before}
use Rattle.core_tables.specs.Ready.{Standings, with_standing}

-- of two executions one is taken before the other
pub either_first : (p q : Priority) (e f : ℕ) → e ≢ f → goes_before p e q f ≡ false → goes_before q f p e ≡ true
either_first p q e f differ not = grind arith

-- the execution has what is put there, and every other what it had
pub here : (all : Standings) (e : ℕ) (s : Option Standing) → with_standing all e s e ≡ s
here all e s = grind arith

pub elsewhere : (all : Standings) (e f : ℕ) (s : Option Standing) → f ≢ e → with_standing all e s f ≡ all f
elsewhere all e f s differ = grind arith
