use Rattle.std.proofs.Common.{refl}
use Rattle.std.specs.Fmt.{digits}
use Rattle.proof_terms.specs.Reading.{deepest}
use Rattle.editor_laws.proofs.report_laws.worked_examples.Goals as goal

pub returns : goal.returns
unfolding digits deepest
returns c = record {
  theory = refl;
  name = refl;
  blob = refl;
  formula = refl;
  escape = refl;
  proof = refl;
}
