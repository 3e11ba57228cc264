-- The reports of small proofs, computed.
use Rattle.std.proofs.Common.{◌≡◌, ℕ, List, [], ◌∷◌, codes, None, Some, ◌∙◌}
use Rattle.nj_formula.specs.declared.formula.Formula.{Formula}
use Rattle.nj_formula.specs.declared.formula.Formula.TheVariants.{Implies}
use Rattle.theory_ctx.specs.Locals.{Scoped}
use Rattle.proof_terms.specs.declared.fault.TermFault.TheVariants.{UnknownName}
use Rattle.proof_terms.specs.declared.term.Cite.{Cite}
use Rattle.proof_terms.specs.declared.term.Term.TheVariants.{Fact, ImpI}
use Rattle.proof_terms.specs.Reading.{deepest}
use Rattle.report_markup.specs.declared.kind.ReportKind.TheVariants as kind
use Rattle.isar_rules.specs.Forks.{fork}
use Rattle.isar_rules.specs.Reports.{name_is, theory_is}
use Rattle.isar_rules.specs.Small.{range, said, in_prove, prop}
use Rattle.isar_rules.specs.WorkedTheories.{fact}
use Rattle.isar_rules.specs.WorkedProofs.{not_p, shown}
use Rattle.isar_rules.specs.WorkedForks.{itself_goal, behind_l}
use Rattle.isar_rules.proofs.Checking.{refs-Fact, refs-ImpI, checked-Fact, checked-ImpI, found_so, judged_well, judged_ill}

-- a name that is cited there
cite : List ℕ → ℕ → ℕ → Cite
cite name start stop = record { name = name; range = range start stop }

empty : Scoped
empty = record { locals = []; theory = codes "A"; facts = [] }

with_l : Scoped
with_l = record { locals = []; theory = codes "A"; facts = fact (codes "l") (codes "P") ∷ [] }

with_h : Scoped
with_h = record { locals = record { name = codes "h"; formula = not_p } ∷ []; theory = codes "A"; facts = [] }

p : Formula
p = prop (codes "P")

pub unknown : fork (codes "by x") in_prove ≡ said kind.Error 0 4 [] (codes "unknown name x") ∷ []
unfolding cite empty p deepest
unknown = judged_ill (codes "by x") p empty (Fact (cite (codes "x") 3 4)) (UnknownName (codes "x")) (checked-Fact (cite (codes "x") 3 4) p empty)

pub theory_fact : fork (codes "by l") behind_l
    ≡ said kind.Proved 0 4 [] [] ∷ said kind.Ref 3 4 (theory_is (codes "A") ∷ name_is (codes "l") ∷ []) [] ∷ []
unfolding cite with_l p deepest
theory_fact =
    judged_well (codes "by l") p with_l (Fact (cite (codes "l") 3 4)) _ _
    (checked-Fact (cite (codes "l") 3 4) p with_l ∙ found_so (codes "l") (Some (codes "A")) (codes "l") p)
    (refs-Fact with_l (cite (codes "l") 3 4))

pub local_fact : fork (codes "by h") shown ≡ said kind.Proved 0 4 [] [] ∷ said kind.Ref 3 4 (name_is (codes "h") ∷ []) [] ∷ []
unfolding cite with_h deepest
local_fact =
    judged_well (codes "by h") not_p with_h (Fact (cite (codes "h") 3 4)) _ _
    (checked-Fact (cite (codes "h") 3 4) not_p with_h ∙ found_so (codes "h") None (codes "h") not_p)
    (refs-Fact with_h (cite (codes "h") 3 4))

pub own_fact : fork (codes "by (impI h h)") itself_goal ≡ said kind.Proved 0 13 [] [] ∷ said kind.Ref 11 12 (name_is (codes "h") ∷ []) [] ∷ []
unfolding cite empty p deepest
own_fact =
    judged_well (codes "by (impI h h)") (Implies p p) empty (ImpI (codes "h") (Fact (cite (codes "h") 11 12))) _ _
    (checked-ImpI (codes "h") (cite (codes "h") 11 12) p empty (found_so (codes "h") None (codes "h") p))
    (refs-ImpI empty (codes "h") (cite (codes "h") 11 12))
