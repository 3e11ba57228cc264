-- What the tokens behind `by` are, or the first fault (this project's own).
use Rattle.std.specs.Prelude.{◌≡◌, ⊤, List, [], ◌∷◌, Some, Result, Ok, Err}
use Rattle.proof_terms.specs.declared.fault.TermFault.{TermFault}
use Rattle.proof_terms.specs.declared.fault.TermError.{TermError}
use Rattle.proof_terms.specs.declared.fault.TermError.TheVariants.{Fault, NoMemory}
use Rattle.proof_terms.specs.declared.mark.Mark.{Mark}
use Rattle.proof_terms.specs.declared.term.Term.{Term}
use Rattle.proof_terms.specs.Slots.{proof}
use Rattle.proof_terms.specs.Grammar.{IsTerm}
use Rattle.proof_terms.specs.Faults.{in_slot, first_fault}
use Rattle.proof_terms.specs.Reading.{deepest}

-- the tokens are the term, or the fault is their first
abbrev pub Answers : List Mark → Result Term TermFault → Type 0
Answers ms (Ok t) = IsTerm deepest ms t
Answers ms (Err fault) = first_fault (in_slot deepest proof ∷ []) ms ≡ Some fault

-- a call answers so, unless memory runs out
abbrev pub Told : List Mark → Result Term TermError → Type 0
Told ms (Ok t) = Answers ms (Ok t)
Told ms (Err (Fault fault)) = Answers ms (Err fault)
Told ms (Err NoMemory) = ⊤
