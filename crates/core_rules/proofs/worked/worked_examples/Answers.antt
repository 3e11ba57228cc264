use Rattle.std.proofs.Common.{refl}
use Rattle.core_rules.proofs.LegalExample.{a_legal_list}
use Rattle.core_rules.proofs.worked.worked_examples.Goals as goal

pub returns-clause-cancelled_evaluation : goal.returns-clause-cancelled_evaluation
returns-clause-cancelled_evaluation c = record {
  first = refl;
  claimed = refl;
  wanted = refl;
  settled = refl;
  stuck = refl;
  nothing = refl;
  replaced = refl;
}

pub returns-clause-cancelled_fork : goal.returns-clause-cancelled_fork
returns-clause-cancelled_fork c = record {
  second = refl;
  first = refl;
  stuck = refl;
  pending = refl;
  renewed = refl;
}

pub returns-clause-replaced_text : goal.returns-clause-replaced_text
returns-clause-replaced_text c = record { told = refl; settled = refl; stuck = refl; next = refl }

pub returns-clause-import : goal.returns-clause-import
returns-clause-import c = record { told = refl; kept = refl; next = refl; states = refl }

pub returns-clause-bad_imports : goal.returns-clause-bad_imports
returns-clause-bad_imports c = record { settled = refl; stuck = refl; rest = refl; states = refl }

pub returns-clause-perspective : goal.returns-clause-perspective
returns-clause-perspective c = record { told = refl; next = refl; pending = refl }

pub returns-clause-inserted_command : goal.returns-clause-inserted_command
returns-clause-inserted_command c = refl

pub returns-clause-removed_version : goal.returns-clause-removed_version
returns-clause-removed_version c = record {
  held = refl;
  live = refl;
  finished = refl;
  pending = refl;
  shown = refl;
}

pub returns-clause-alias : goal.returns-clause-alias
returns-clause-alias c = record { told = refl; importer = refl; begins = refl }

pub returns-clause-blob : goal.returns-clause-blob
returns-clause-blob c = record { changed = refl; kept = refl; gone = refl; states = refl }

pub returns-clause-legal : goal.returns-clause-legal
returns-clause-legal c = a_legal_list
