use Rattle.std.proofs.Common.{refl}
use Rattle.exec_rules.proofs.laws.worked_examples.Goals as goal

pub returns-clause-changed_command : goal.returns-clause-changed_command
returns-clause-changed_command c = refl

pub returns-clause-perspective : goal.returns-clause-perspective
returns-clause-perspective c = record { two = refl; all = refl; one = refl }

pub returns-clause-changed_import : goal.returns-clause-changed_import
returns-clause-changed_import c = record { first = refl; import = refl; importer = refl }

pub returns-clause-bad_imports : goal.returns-clause-bad_imports
returns-clause-bad_imports c = record { first = refl; again = refl }

pub returns-clause-cancellation : goal.returns-clause-cancellation
returns-clause-cancellation c = record { evaluation = refl; print = refl }

pub returns-clause-blob : goal.returns-clause-blob
returns-clause-blob c = record { changed = refl; other = refl; gone = refl }

pub returns-clause-empty_import : goal.returns-clause-empty_import
returns-clause-empty_import c = refl
