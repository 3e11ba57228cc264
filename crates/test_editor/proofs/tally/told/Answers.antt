use Rattle.std.proofs.Common.{sym, subst}
use Rattle.report_markup.proofs.KnownNumbers.{plain-decimal}
use Rattle.yxml.specs.Normal.{IsPlain}
use Rattle.test_editor.proofs.tally.told.Goals as goal

pub from_str-requires : goal.from_str-requires
from_str-requires c = subst IsPlain (sym c.format.ensures.text) (plain-decimal c.args.number c.ranges.number.fits)
