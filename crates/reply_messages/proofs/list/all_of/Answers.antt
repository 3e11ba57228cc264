-- All that stands at the front is the text.
use Rattle.std.proofs.Common.{arith}
use Rattle.reply_messages.proofs.Taking.{nothing_left}
use Rattle.reply_messages.proofs.list.all_of.Goals as goal

pub returns-else-taken-text : goal.returns-else-taken-text
returns-else-taken-text g c = λ ys fits e.
    let end = nothing_left g.P.Piece.spelling g.P.Piece.fits c.requires.elements c.args.text.now c.in_ok-taken.taken c.in_ok-taken.ensures ys fits e in
    absurd (omega (arith, end, c.in_ok-taken.ensures.within))
