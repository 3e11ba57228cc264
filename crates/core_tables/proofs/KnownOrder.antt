-- The order in which executions are taken.
use Rattle.std.proofs.Common.{◌≡◌, ℕ, false, arith, true}
use Rattle.core_tables.specs.declared.priority.Priority.{Priority}
use Rattle.core_tables.specs.Order.{goes_before}

-- none is taken before itself
pub not_itself : (p : Priority) (e : ℕ) → goes_before p e p e ≡ false
not_itself p e = grind arith

-- nor two before each other
pub not_both : (p q : Priority) (e f : ℕ) → goes_before p e q f ≡ true → goes_before q f p e ≡ false
not_both p q e f one = grind arith
