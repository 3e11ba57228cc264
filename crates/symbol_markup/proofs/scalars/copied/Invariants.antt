use Rattle.std.proofs.Common.{◌≡◌, take}
use Rattle.symbol_markup.proofs.scalars.copied.Given as goal

abbrev pub invariant-properties : goal.invariant-properties
invariant-properties l = l.copies.items ≡ take l.property-index l.properties
