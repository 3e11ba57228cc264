use Rattle.std.proofs.Common.{refl}
use Rattle.session_rules.proofs.laws.worked_examples.Goals as goal

pub returns-clause-first_version : goal.returns-clause-first_version
returns-clause-first_version c = record {
  assigned = refl;
  claimed = refl;
  reported = refl;
  pending = refl;
  settled = refl;
  shown = refl;
  edited = refl;
}

pub returns-clause-cancelled_claim : goal.returns-clause-cancelled_claim
returns-clause-cancelled_claim c = record {
  asked = refl;
  claimed = refl;
  cancelled = refl;
  again = refl;
  dropped = refl;
  settled = refl;
  renewed = refl;
}

pub returns-clause-refusals : goal.returns-clause-refusals
returns-clause-refusals c = record {
  read = refl;
  version = refl;
  unknown = refl;
  tip = refl;
  node = refl;
  execution = refl;
  nothing = refl;
  held = refl;
  protocol = refl;
}
