-- The order in which a theorem keeps its assumptions, so that sets are joined in one pass (as HOL
-- Light does).
use Rattle.std.specs.Prelude.{Bool, true, ◌&&◌, List, [], ◌∷◌}
use Rattle.std.specs.List.{list_all}
use Rattle.std.specs.Ordering.{nat_cmp, is_lt}
use Rattle.std.specs.Cmp.Lexicographic.{slice_cmp}
use Rattle.std.specs.declared.cmp.Ordering.{Ordering}
use Rattle.nj_formula.specs.Statement.{Statement}
use Rattle.nj_kernel.specs.Keys.{statement_key}

-- how two statements stand: their keys, number by number
abbrev pub order : Statement → Statement → Ordering
order a b = slice_cmp nat_cmp (statement_key a) (statement_key b)

-- each statement stands before all that follow it
abbrev pub rises : List Statement → Bool
rises [] = true
rises (a ∷ s) = list_all (λ b. is_lt (order a b)) s && rises s
