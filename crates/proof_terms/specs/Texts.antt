-- The texts of faults (this project's own).
use Rattle.std.specs.Prelude.{ℕ, List, ◌++◌, codes}
use Rattle.std.specs.Fmt.{decimal}
use Rattle.nj_kernel.specs.RuleNames.{rule_name}
use Rattle.proof_terms.specs.declared.fault.TermFault.{TermFault}
use Rattle.proof_terms.specs.declared.fault.TermFault.TheVariants.{Malformed, BadFormula, FormulaTooDeep, ProofTooDeep}
use Rattle.proof_terms.specs.declared.fault.TermFault.TheVariants.{UnknownName, AmbiguousName}
use Rattle.proof_terms.specs.declared.fault.TermFault.TheVariants.{ProvesAnother, RuleDoesNotFit, NotFresh}

-- the text of a fault, as a report has it
abbrev pub fault_text : TermFault → List ℕ
fault_text Malformed = codes "malformed proof"
fault_text (BadFormula at) = codes "bad formula at " ++ decimal at
fault_text FormulaTooDeep = codes "formula too deep"
fault_text ProofTooDeep = codes "proof too deep"
fault_text (UnknownName name) = codes "unknown name " ++ name
fault_text (AmbiguousName name) = codes "ambiguous name " ++ name
fault_text (ProvesAnother name) = name ++ codes " proves another formula"
fault_text (RuleDoesNotFit rule) = codes "rule " ++ rule_name rule ++ codes " does not fit"
fault_text (NotFresh name) = codes "variable " ++ name ++ codes " is not fresh"
