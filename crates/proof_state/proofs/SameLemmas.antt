-- The test whether two formulas say the same.
use Rattle.std.proofs.Common.{◌≡◌, ◌↔◌, Bool, true, false, IsTrue, refl, sym}
use Rattle.nj_formula.specs.declared.formula.Formula.{Formula}
use Rattle.nj_formula.specs.Meaning.{meaning}
use Rattle.proof_state.specs.Same.{decide, says_same}
use Rattle.proof_state.proofs.KnownFirst.{first_is, is_first_of}

pub same_is : (f g : Formula) → says_same f g ≡ true → meaning f ≡ meaning g
unfolding says_same
same_is f g e = first_is (decide (meaning f) (meaning g)) e

pub is_same : (f g : Formula) → meaning f ≡ meaning g → says_same f g ≡ true
unfolding says_same
is_same f g e = is_first_of (decide (meaning f) (meaning g)) e

pub same_iff : (f g : Formula) → IsTrue (says_same f g) ↔ (meaning f ≡ meaning g)
same_iff f g = (same_is f g, is_same f g)

-- a test that says yes just there is this test
pub tested : (f g : Formula) (r : Bool) → (IsTrue r ↔ (meaning f ≡ meaning g)) → r ≡ says_same f g
tested f g true iff = sym (is_same f g (iff.0 refl))
tested f g false iff = by (says_same f g) refl
  where
    by : (b : Bool) → says_same f g ≡ b → false ≡ b
    by true e = iff.1 (same_is f g e)
    by false e = refl
