use Rattle.std.proofs.Common.{◌≡◌, ℕ, List, [], length}
use Rattle.buffer_rules.specs.Updates.{blobs_after}
use Rattle.editor_buffer.specs.NameSets.{AreNames, AreChanged}
use Rattle.editor_buffer.proofs.blobs.blob_edits.Given as goal

abbrev pub invariant-each : goal.invariant-each
invariant-each l = record {
  rest : (names : List (List ℕ)) × AreNames l.edits.came names
      × (blobs_after l.before names l.rest l.edits.blobs ≡ blobs_after l.before [] l.fn.changes l.before);
  changed : AreChanged l.edits.changed l.before l.edits.blobs;
}

abbrev pub decreases-each : goal.decreases-each
decreases-each l = length l.rest
