use Rattle.std.proofs.Common.{refl}
use Rattle.mirror_rules.proofs.worked.worked_cases.Goals as goal

pub returns-clause-editor : goal.returns-clause-editor
returns-clause-editor c = record {
  first = refl;
  importer = refl;
  fork = refl;
  failure = refl;
  other = refl;
  edit = refl;
  anew = refl;
  older = refl;
  cancelled = refl;
  removed = refl;
  stays = refl;
  unknown = refl;
}

pub returns-clause-symbols : goal.returns-clause-symbols
returns-clause-symbols c = record { formula = refl }

pub returns-clause-blobs : goal.returns-clause-blobs
returns-clause-blobs c = record { loaded = refl; again = refl; kept = refl }

pub returns-clause-faults : goal.returns-clause-faults
returns-clause-faults c = record {
  unread = refl;
  nothing = refl;
  another = refl;
  version = refl;
  nowhere = refl;
  outside = refl;
  uncounted = refl;
  refused = refl;
  node = refl;
  command = refl;
}

pub returns-clause-no_faults : goal.returns-clause-no_faults
returns-clause-no_faults c = record { report = refl; dropped = refl; refusal = refl }

pub returns-clause-script : goal.returns-clause-script
returns-clause-script c = record { finished = refl; waits = refl }

pub returns-clause-first_fault : goal.returns-clause-first_fault
returns-clause-first_fault c = record { broken = refl; first = refl }
