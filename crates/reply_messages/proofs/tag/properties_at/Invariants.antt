-- The properties so far, and the text that is left, are the text.
use Rattle.std.proofs.Common.{◌≡◌, ◌++◌, length}
use Rattle.std.specs.List.{AllByRecursion}
use Rattle.reply_messages.specs.Fits.{FitsProperty}
use Rattle.reply_messages.specs.Marks.{Begins}
use Rattle.reply_messages.specs.Tags.{properties_bytes}
use Rattle.reply_messages.proofs.tag.properties_at.Given as goal

abbrev pub invariant-properties : goal.invariant-properties
invariant-properties l = record {
  fits : AllByRecursion FitsProperty l.found;
  told : l.text ≡ properties_bytes l.found ++ l.rest;
  begins : Begins 6 l.rest;
}

abbrev pub decreases-properties : goal.decreases-properties
decreases-properties l = length l.rest
