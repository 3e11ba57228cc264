-- The values so far stand at the front, and the text goes on behind them.
use Rattle.std.proofs.Common.{◌≡◌, ◌≤◌, ◌-◌, ◌++◌, length, drop}
use Rattle.std.specs.List.{AllByRecursion, flat_map}
use Rattle.reply_messages.proofs.list.take_all.Given as goal

abbrev pub invariant-pieces : goal.invariant-pieces
invariant-pieces g l = record {
  fits : AllByRecursion g.P.Piece.fits l.value;
  within : l.length ≤ length l.text;
  told : l.text ≡ flat_map g.P.Piece.spelling l.value ++ drop l.length l.text;
}

abbrev pub decreases-pieces : goal.decreases-pieces
decreases-pieces g l = length l.text - l.length
