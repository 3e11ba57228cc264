-- False is true in no structure: here in one with one point, where nothing holds.
use Rattle.nj_kernel.proofs.TruthLemmas.{sound}
use Rattle.nj_kernel.proofs.consistency.consistency_law.Goals as goal

pub returns : goal.returns
returns c = λ d. sound {D = Unit {0}} (λ f ds. tt) (λ p ds. ⊥) d (record { of_name = λ x. tt; of_place = λ n. tt }) (λ f m. elim m [ ])
