use Rattle.std.proofs.Common.{refl}
use Rattle.buffer_rules.proofs.laws.worked_examples.Goals as goal

pub returns-clause-changed_text : goal.returns-clause-changed_text
returns-clause-changed_text c = record { first = refl; changed = refl; again = refl }

pub returns-clause-open_comment : goal.returns-clause-open_comment
returns-clause-open_comment c =
    record { hidden = refl; place = refl; back = refl; name = refl; blanks = refl }

pub returns-clause-equal_commands : goal.returns-clause-equal_commands
returns-clause-equal_commands c = record { front = refl }

pub returns-clause-two_nodes : goal.returns-clause-two_nodes
returns-clause-two_nodes c = record { first = refl; import = refl; both = refl }

pub returns-clause-alias : goal.returns-clause-alias
returns-clause-alias c = record { first = refl; gone = refl }

pub returns-clause-items_refused : goal.returns-clause-items_refused
returns-clause-items_refused c = record {
  twice = refl;
  reopened = refl;
  before = refl;
  unknown = refl;
  out = refl;
  differs = refl;
  past = refl;
  after_edits = refl;
  first = refl;
  other_first = refl;
}

pub returns-clause-blobs_refused : goal.returns-clause-blobs_refused
returns-clause-blobs_refused c =
    record { twice = refl; unknown = refl; unknown_first = refl; twice_first = refl; items_first = refl }

pub returns-clause-too_many_versions : goal.returns-clause-too_many_versions
returns-clause-too_many_versions c = record { one_less = refl; limit = refl; last = refl }

pub returns-clause-perspectives : goal.returns-clause-perspectives
returns-clause-perspectives c =
    record { two = refl; moved = refl; dropped = refl; replaced = refl }

pub returns-clause-load : goal.returns-clause-load
returns-clause-load c = record { asked = refl; there = refl }
