use Rattle.std.proofs.Common.{length, ◌-◌, ◌≡◌, ◌+◌, ◌≤◌, drop}
use Rattle.std.specs.List.{prefix_len}
use Rattle.text_words.specs.Identifier.{is_identifier_part}
use Rattle.text_words.proofs.identifier.part_run.Given as goal

abbrev pub invariant-loop-n : goal.invariant-loop-n
invariant-loop-n l = (l.n ≤ length l.text)
    × (l.n + prefix_len is_identifier_part (drop l.n l.text) ≡ prefix_len is_identifier_part l.text)

abbrev pub decreases-loop-n : goal.decreases-loop-n
decreases-loop-n l = length l.text - l.n
