-- The first fault of one part of a rule.
use Rattle.std.proofs.Common.{◌≡◌, ℕ, List, [], ◌∷◌, Option, Some, Result, Ok, Err, refl}
use Rattle.nj_syntax.specs.Answer.{formula_of, term_of}
use Rattle.nj_syntax.specs.declared.fault.FormulaFault.{FormulaFault}
use Rattle.proof_terms.specs.declared.fault.TermFault.{TermFault}
use Rattle.proof_terms.specs.declared.mark.Mark.{Mark}
use Rattle.proof_terms.specs.declared.mark.Mark.TheVariants.{Closes, Name, Quoted}
use Rattle.proof_terms.specs.declared.term.Term.{Term}
use Rattle.proof_terms.specs.Slots.{formula, object, named}
use Rattle.proof_terms.specs.Faults.{Awaited, in_slot, closing, judge_quoted, goes_on, first_fault}
use Rattle.proof_terms.specs.Reading.{Read, and_then, read_name, read_close, unquoted, read_formula, read_object}

-- the first fault where this has to come after what was read
abbrev pub after : {A : Type 0} → Read A → List Awaited → Option TermFault
after (Ok r) awaited = first_fault awaited r.1
after (Err f) awaited = Some f

-- reading something else from the same tokens
pub mapped : {A B : Type 0} (m : Read A) (f : A → B) (aw : List Awaited) → after (and_then m (λ a more. Ok (f a, more))) aw ≡ after m aw
mapped (Ok r) f aw = refl
mapped (Err e) f aw = refl

quoted_judged : {A : Type 0} (r : Result A FormulaFault) (aw : List Awaited) (ms : List Mark)
    → goes_on (judge_quoted r aw) (λ next. first_fault next ms) ≡ after (unquoted r ms) aw
quoted_judged (Ok a) aw ms = refl
quoted_judged (Err e) aw ms = refl

pub formula_judged : (n : ℕ) (ms : List Mark) (aw : List Awaited) → first_fault (in_slot n formula ∷ aw) ms ≡ after (read_formula ms) aw
formula_judged n [] aw = refl
formula_judged n (Quoted s ∷ ms) aw = quoted_judged (formula_of s) aw ms
formula_judged n (_ ∷ ms) aw = refl

pub object_judged : (n : ℕ) (ms : List Mark) (aw : List Awaited) → first_fault (in_slot n object ∷ aw) ms ≡ after (read_object ms) aw
object_judged n [] aw = refl
object_judged n (Quoted s ∷ ms) aw = quoted_judged (term_of s) aw ms
object_judged n (_ ∷ ms) aw = refl

pub name_judged : (n : ℕ) (ms : List Mark) (aw : List Awaited) → first_fault (in_slot n named ∷ aw) ms ≡ after (read_name ms) aw
name_judged n [] aw = refl
name_judged n (Name c ∷ ms) aw = refl
name_judged n (_ ∷ ms) aw = refl

pub close_judged : (t : Term) (ms : List Mark) (aw : List Awaited) → first_fault (closing ∷ aw) ms ≡ after (and_then (read_close ms) (λ _ last. Ok (t, last))) aw
close_judged t [] aw = refl
close_judged t (Closes ∷ ms) aw = refl
close_judged t (_ ∷ ms) aw = refl
