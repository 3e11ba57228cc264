use Rattle.std.proofs.Common.{◌≡◌, length, map}
use Rattle.command_spans.specs.CutTexts.{AreCutsOf}
use Rattle.editor_buffer.specs.Held.{text_of}
use Rattle.buffer_rules.specs.Texts.{edit_all}
use Rattle.buffer_rules.specs.Sheets.{converted}
use Rattle.editor_buffer.specs.Within.{AreWithin}
use Rattle.editor_buffer.proofs.editing.edited.Given as goal

abbrev pub invariant-each : goal.invariant-each
invariant-each l = record {
  text : edit_all l.rest (text_of l.made.text) ≡ edit_all l.fn.edits (text_of l.fn.old.text);
  are_cuts : AreCutsOf (text_of l.made.text) l.made.spans;
  ranges : map (converted l.rest) l.made.ranges.items ≡ map (converted l.fn.edits) l.fn.old.ranges.items;
  within : AreWithin (length (text_of l.made.text)) l.made.ranges.items;
}

abbrev pub decreases-each : goal.decreases-each
decreases-each l = length l.rest
