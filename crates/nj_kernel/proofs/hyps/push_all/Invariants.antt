use Rattle.std.proofs.Common.{◌≡◌, ◌++◌, take}
use Rattle.nj_kernel.proofs.hyps.push_all.Given as goal

abbrev pub invariant-loop-formula : goal.invariant-loop-formula
invariant-loop-formula l = l.to ≡ l.fn.to ++ take l.formula-index l.formulas
