-- What a command answers of a copy of a proof, it answers of the proof.
use Rattle.std.proofs.Common.{◌≡◌, Result, subst}
use Rattle.nj_formula.specs.declared.formula.Formula.{Formula}
use Rattle.proof_state.specs.declared.fault.ProofFault.{ProofFault}
use Rattle.proof_state.specs.declared.levels.Levels.{Levels}
use Rattle.proof_state.specs.Answers.{Gives}
use Rattle.proof_state.specs.Steps.{Command, step}

pub of_copy : (command : Command) (copy proof : Levels) (answer : Result Levels ProofFault) → copy ≡ proof
    → Gives (step command copy) answer → Gives (step command proof) answer
of_copy command copy proof answer same = subst (λ p. Gives (step command p) answer) same

-- the same of a copy of its name
pub of_name : {A : Type 0} (command : A → Command) (name same : A) (copy proof : Levels) (answer : Result Levels ProofFault) → name ≡ same → copy ≡ proof
    → Gives (step (command name) copy) answer → Gives (step (command same) proof) answer
of_name command name same copy proof answer e f gives =
    subst (λ n. Gives (step (command n) proof) answer) e (of_copy (command name) copy proof answer f gives)

-- the same of a copy beside the formula that the command gives to it
pub of_both : (command : Formula → Command) (both : Levels × Formula) (proof : Levels) (formula : Formula) (answer : Result Levels ProofFault)
    → both ≡ (proof, formula) → Gives (step (command both.1) both.0) answer → Gives (step (command formula) proof) answer
of_both command both proof formula answer same = subst (λ b. Gives (step (command b.1) b.0) answer) same
