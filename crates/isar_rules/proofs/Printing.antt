-- The texts of the formulas of the examples, and what else is computed of formulas.
use Rattle.std.proofs.Common.{◌≡◌, true, [], codes, refl}
use Rattle.nj_formula.specs.declared.formula.Formula.{Formula}
use Rattle.nj_formula.specs.declared.formula.Formula.TheVariants.{Implies}
use Rattle.nj_formula.specs.Meaning.{meaning}
use Rattle.proof_state.specs.Same.{decide, says_same}
use Rattle.proof_state.proofs.KnownFirst.{is_first_of}
use Rattle.nj_syntax.specs.Printed.{formula_text}
use Rattle.suggest_rules.specs.Worked.{swap, peirce}
use Rattle.isar_rules.specs.Small.{prop}
use Rattle.isar_rules.specs.WorkedProofs.{not_p, itself}
use Rattle.isar_rules.specs.WorkedPrints.{both}
use Rattle.nj_syntax.proofs.KnownSpoken.{says_atom, says_not, says_and, says_implies}

pub p_text : formula_text (prop (codes "P")) ≡ codes "P"
p_text = says_atom 10 [] (codes "P")

pub implies_text : formula_text (Implies (prop (codes "P")) (prop (codes "P"))) ≡ codes "P --> P"
implies_text = says_implies 10 [] (prop (codes "P")) (prop (codes "P")) _ _ (says_atom 26 [] (codes "P")) (says_atom 25 [] (codes "P"))

pub not_p_text : formula_text not_p ≡ codes "~P"
not_p_text = says_not 10 [] (prop (codes "P")) _ (says_atom 40 [] (codes "P"))

pub itself_text : formula_text itself ≡ codes "~P --> ~P"
itself_text =
    says_implies 10 [] not_p not_p _ _ (says_not 26 [] (prop (codes "P")) _ (says_atom 40 [] (codes "P")))
    (says_not 25 [] (prop (codes "P")) _ (says_atom 40 [] (codes "P")))

pub swapped_text : formula_text (Implies (both (codes "A") (codes "B")) (both (codes "B") (codes "A"))) ≡ codes "A & B --> B & A"
swapped_text =
    says_implies 10 [] (both (codes "A") (codes "B")) (both (codes "B") (codes "A")) _ _
    (says_and 26 [] (prop (codes "A")) (prop (codes "B")) _ _ (says_atom 36 [] (codes "A")) (says_atom 35 [] (codes "B")))
    (says_and 25 [] (prop (codes "B")) (prop (codes "A")) _ _ (says_atom 36 [] (codes "B")) (says_atom 35 [] (codes "A")))

pub ab_text : formula_text (both (codes "A") (codes "B")) ≡ codes "A & B"
ab_text = says_and 10 [] (prop (codes "A")) (prop (codes "B")) _ _ (says_atom 36 [] (codes "A")) (says_atom 35 [] (codes "B"))

pub ba_text : formula_text (both (codes "B") (codes "A")) ≡ codes "B & A"
ba_text = says_and 10 [] (prop (codes "B")) (prop (codes "A")) _ _ (says_atom 36 [] (codes "B")) (says_atom 35 [] (codes "A"))

pub swap_text : formula_text swap ≡ codes "P & Q --> Q & P"
swap_text =
    says_implies 10 [] (both (codes "P") (codes "Q")) (both (codes "Q") (codes "P")) _ _
    (says_and 26 [] (prop (codes "P")) (prop (codes "Q")) _ _ (says_atom 36 [] (codes "P")) (says_atom 35 [] (codes "Q")))
    (says_and 25 [] (prop (codes "Q")) (prop (codes "P")) _ _ (says_atom 36 [] (codes "Q")) (says_atom 35 [] (codes "P")))

pub peirce_text : formula_text peirce ≡ codes "((P --> Q) --> P) --> P"
peirce_text =
    says_implies 10 [] (Implies (Implies (prop (codes "P")) (prop (codes "Q"))) (prop (codes "P"))) (prop (codes "P")) _ _
    (says_implies 26 [] (Implies (prop (codes "P")) (prop (codes "Q"))) (prop (codes "P")) _ _
    (says_implies 26 [] (prop (codes "P")) (prop (codes "Q")) _ _ (says_atom 26 [] (codes "P")) (says_atom 25 [] (codes "Q")))
    (says_atom 25 [] (codes "P")))
    (says_atom 25 [] (codes "P"))

pub same_itself : (f : Formula) → says_same f f ≡ true
unfolding says_same
same_itself f = is_first_of (decide (meaning f) (meaning f)) refl
