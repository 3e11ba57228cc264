use Rattle.std.proofs.Common.{◌≡◌, ◌++◌, length, map, IsTrue}
use Rattle.std.specs.List.{AllZip, zip}
use Rattle.buffer_rules.specs.Cuts.{source}
use Rattle.buffer_rules.specs.Nodes.{entry}
use Rattle.editor_buffer.specs.Commands.{AsksFor}
use Rattle.editor_buffer.proofs.entries.push_kept.Given as goal

abbrev pub invariant-kept : goal.invariant-kept
invariant-kept l = record {
  asked : IsTrue l.same → AllZip (λ e r. AsksFor l.aliases (source l.sheet.text r) e) l.olds l.rest;
  made : l.entries ++ map (entry l.sheet l.aliases) (zip (map (λ e. e.command) l.olds) l.rest)
      ≡ l.initial.entries ++ map (entry l.sheet l.aliases) (zip (map (λ e. e.command) l.fn.before) l.fn.ranges);
}

abbrev pub decreases-kept : goal.decreases-kept
decreases-kept l = length l.olds
