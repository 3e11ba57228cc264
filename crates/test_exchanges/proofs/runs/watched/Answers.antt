-- A run in which no call fails is done, or memory is short.
use Rattle.test_exchanges.proofs.Quiet.{never_rose}
use Rattle.test_exchanges.proofs.runs.watched.Goals as goal

pub returns : goal.returns
returns g c = record {
  whole = λ served other bytes left ending short source sink pulls pushes.
      let run = c.pide in
      run.ensures.complete served other bytes left ending short
      (never_rose _ _ source pulls) (never_rose _ _ sink pushes);
}
