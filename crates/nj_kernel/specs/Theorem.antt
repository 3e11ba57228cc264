-- What a theorem says.
use Rattle.std.specs.Prelude.{List, map}
use Rattle.nj_formula.specs.Statement.{Statement}
use Rattle.nj_formula.specs.Meaning.{meaning}
use Rattle.nj_kernel.specs.declared.thm.Thm.{Thm}

-- the set of its assumptions
abbrev pub assumed : Thm → List Statement
assumed t = map meaning t.hyps

-- its conclusion
abbrev pub shown : Thm → Statement
shown t = meaning t.concl
