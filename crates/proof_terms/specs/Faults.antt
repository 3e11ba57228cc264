-- Where a text is no proof term: the first token at fault, from the left (this project's own).
use Rattle.std.specs.Prelude.{ℕ, zero, suc, List, [], ◌∷◌, ◌++◌, map, Option, Some, None, Result, Ok, Err}
use Rattle.nj_kernel.specs.declared.rule.Rule.{Rule}
use Rattle.nj_syntax.specs.Answer.{formula_of, term_of}
use Rattle.nj_syntax.specs.declared.fault.FormulaFault.{FormulaFault}
use Rattle.nj_syntax.specs.declared.fault.FormulaFault.TheVariants.{At, TooDeep, NoMemory}
use Rattle.proof_terms.specs.declared.fault.TermFault.{TermFault}
use Rattle.proof_terms.specs.declared.fault.TermFault.TheVariants.{Malformed, BadFormula, FormulaTooDeep, ProofTooDeep}
use Rattle.proof_terms.specs.declared.mark.Mark.{Mark}
use Rattle.proof_terms.specs.declared.mark.Mark.TheVariants.{Opens, Closes, Name, Long, Quoted}
use Rattle.proof_terms.specs.RuleNames.{rule_of}
use Rattle.proof_terms.specs.Slots.{Slot, formula, object, named, proof, slots}

-- what has to come yet
pub data Awaited : Type 0 where
  -- what stands in a place, with at most so many nested rules
  in_slot : ℕ → Slot → Awaited
  -- the name of a rule, in which at most one fewer is nested
  rule : ℕ → Awaited
  -- `)`
  closing : Awaited

-- the fault of what is quoted
abbrev pub quoted_fault : FormulaFault → TermFault
quoted_fault (At at kind) = BadFormula at
quoted_fault TooDeep = FormulaTooDeep
quoted_fault NoMemory = Malformed

-- what has to come after a token, or the fault at it
abbrev pub Judged : Type 0
Judged = Result (List Awaited) TermFault

-- the quoted text is none where it has a fault
abbrev pub judge_quoted : {A : Type 0} → Result A FormulaFault → List Awaited → Judged
judge_quoted (Ok a) more = Ok more
judge_quoted (Err fault) more = Err (quoted_fault fault)

-- the name of a rule with so many nested ones
abbrev pub judge_rule : ℕ → Option Rule → List Awaited → Judged
judge_rule n None more = Err Malformed
judge_rule zero (Some r) more = Err ProofTooDeep
judge_rule (suc n) (Some r) more = Ok (map (in_slot n) (slots r) ++ closing ∷ more)

-- a token where this has to come, before more
abbrev pub judge : Awaited → Mark → List Awaited → Judged
judge (in_slot n proof) (Name c) more = Ok more
judge (in_slot n proof) (Long c) more = Ok more
judge (in_slot n proof) Opens more = Ok (rule n ∷ more)
judge (rule n) (Name c) more = judge_rule n (rule_of c.name) more
judge (in_slot n formula) (Quoted s) more = judge_quoted (formula_of s) more
judge (in_slot n object) (Quoted s) more = judge_quoted (term_of s) more
judge (in_slot n named) (Name c) more = Ok more
judge closing Closes more = Ok more
judge _ _ more = Err Malformed

-- the first fault after a token, by what has to come then
abbrev pub goes_on : Judged → (List Awaited → Option TermFault) → Option TermFault
goes_on (Ok awaited) later = later awaited
goes_on (Err fault) later = Some fault

-- the first fault of tokens where this has to come: none where they are just that
abbrev pub first_fault : List Awaited → List Mark → Option TermFault
first_fault [] [] = None
first_fault [] (m ∷ ms) = Some Malformed
first_fault (a ∷ awaited) [] = Some Malformed
first_fault (a ∷ awaited) (m ∷ ms) = goes_on (judge a m awaited) (λ next. first_fault next ms)
