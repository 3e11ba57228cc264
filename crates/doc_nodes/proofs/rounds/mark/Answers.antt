use Rattle.std.proofs.Common.{◌<◌, get_or, length, arith}
use Rattle.text_words.proofs.KnownMembers.{has_at}
use Rattle.doc_nodes.proofs.KnownSteps.{marked_more}
use Rattle.doc_nodes.proofs.rounds.mark.Goals as goal

pub bounds-marks-place : goal.bounds-marks-place
bounds-marks-place c = omega (arith, c.requires _ (has_at c.args.places.now c.places.place-index 0 (omega arith)))

pub places-preserved : goal.places-preserved
places-preserved c = λ p.
    let here : c.places.place-index < length c.args.places.now = omega arith in
    let within : get_or c.args.places.now c.places.place-index 0 < length c.places.marks = omega (arith, c.requires _ (has_at c.args.places.now c.places.place-index 0 here)) in
    marked_more _ _ _ _ p here within (c.places.invariant p)
