use Rattle.proof_state.specs.declared.levels.Levels.TheVariants.{Prove}
use Rattle.std.proofs.Common.{[]}
use Rattle.proof_state.proofs.WorthLemmas.{run, begins}
use Rattle.proof_state.proofs.laws.worth_law.Goals as goal

pub returns : goal.returns
returns c facts goal commands is = run facts goal commands (Prove goal []) ∣ begins facts goal ∣₁ is
