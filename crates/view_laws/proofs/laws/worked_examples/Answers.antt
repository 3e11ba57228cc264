use Rattle.std.proofs.Common.{refl, append-nil, [], ◌∷◌, arith}
use Rattle.view_laws.specs.Worked.{refusal}
use Rattle.view_laws.proofs.laws.worked_examples.Goals as goal

pub returns-clause-refusal : goal.returns-clause-refusal
returns-clause-refusal c = record {
  legal = (
    (refl, (refl, refl, tt)),
    record {
      writer_is = refl;
      going = refl;
      bytes = refusal;
      behind = [];
      first = record { gone = []; replies = refl; count = refl };
      len_is = refl;
    },
  );
  reader = refl;
  worker = refl;
  writer = refl;
  handed = append-nil refusal;
  before = refl;
  other = refl;
  idle_worker = record { going = refl; worker = λ within. refl; writer = λ is. absurd (omega (arith, is)) };
  idle_writer = record {
    going = refl;
    worker = λ within. absurd (omega (arith, within));
    writer = λ is. record { gone = refusal ∷ []; replies = refl; count = refl };
  };
}

pub returns-clause-workers : goal.returns-clause-workers
returns-clause-workers c = record { first = refl; second = refl; writer = refl; reader = refl }
