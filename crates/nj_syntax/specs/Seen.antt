-- What the definitions see of the reader's states (the code's own way): what is pending, newest
-- first.
use Rattle.std.specs.Prelude.{◌≡◌, Option, option_map, reverse, Result, Ok, Err, ⊤}
use Rattle.nj_syntax.specs.declared.fault.FormulaFault.{FormulaFault}
use Rattle.nj_syntax.specs.declared.state.State as states
use Rattle.nj_syntax.specs.declared.state.Step as steps
use Rattle.nj_syntax.specs.declared.read.End as ends
use Rattle.nj_syntax.specs.Steps.{State, Step}
use Rattle.nj_syntax.specs.Answer.{End}

-- a state of the code
abbrev pub seen : states.State → State
seen s = (s.mode, reverse s.pending)

-- a step of the code
abbrev pub seen_step : Option steps.Step → Step
seen_step = option_map (λ s. (seen s.state, s.depth))

-- an end of the code
abbrev pub seen_end : ends.End → End
seen_end e = (seen e.state, e.stop, e.whole)

-- the code's answer, so seen, is this one, unless there was no memory
abbrev pub Gives : {A B : Type 0} → (A → B) → Result A FormulaFault → Result B FormulaFault → Type 0
Gives see (Ok a) wanted = wanted ≡ Ok (see a)
Gives see (Err (FormulaFault.At pos kind)) wanted = wanted ≡ Err (FormulaFault.At pos kind)
Gives see (Err FormulaFault.TooDeep) wanted = wanted ≡ Err FormulaFault.TooDeep
Gives see (Err FormulaFault.NoMemory) wanted = ⊤
