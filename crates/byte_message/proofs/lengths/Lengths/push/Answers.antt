-- Where as many are there as a message may have, the first of them stay.
use Rattle.std.proofs.Common.{◌≡◌, arith, ap, sym, ◌∙◌, length, [], ◌∷◌}
use Rattle.std.proofs.lemmas.List.{take_all, take-append-le}
use Rattle.byte_message.proofs.lengths.Lengths.push.Goals as goal

pub returns-else-not-is_full : goal.returns-else-not-is_full
returns-else-not-is_full c =
    let n = ap length c.self.view_is in
    let full : length c.args.self.now ≡ 16
    = grind (arith, c.is_full.ensures.value, c.is_full.ensures.fits, c.if-not-is_full.false, n) in
    let kept = take-append-le 16 c.args.self.now (c.args.length ∷ []) (omega arith) in
    sym (kept ∙ take_all 16 c.args.self.now (omega arith))
