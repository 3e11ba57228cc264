-- Prints under any names: there is one and no other.
use Rattle.std.proofs.Common.{◌≡◌, ℕ, List}
use Rattle.nj_formula.specs.declared.formula.Formula.{Formula}
use Rattle.nj_formula.specs.Statement.{Statement}
use Rattle.nj_syntax.specs.Primed.{IsPrimed}
use Rattle.nj_syntax.specs.Prints.{Prints}
use Rattle.nj_syntax.proofs.BareLemmas as Bare
use Rattle.nj_syntax.proofs.HasPrintLemmas.{has_primed, has_print_under}
use Rattle.nj_syntax.proofs.OnePrintLemmas as One

pub some_print : (names : List (List ℕ)) (a : Formula) → (text : List ℕ) × Prints 10 names a text
some_print names a = has_print_under a names

pub one_print : (names : List (List ℕ)) (a : Formula) (text other : List ℕ) → Prints 10 names a text → Prints 10 names a other → text ≡ other
one_print names a text other is is_too = One.one_print is other is_too

pub some_primed : (names : List (List ℕ)) (x : List ℕ) (body : Statement) → (y : List ℕ) × IsPrimed names x body y
some_primed = has_primed

pub one_primed : (names : List (List ℕ)) (x : List ℕ) (body : Statement) (y z : List ℕ) → IsPrimed names x body y → IsPrimed names x body z → y ≡ z
one_primed = Bare.one_primed
