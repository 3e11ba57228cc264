-- Piece by piece.
use Rattle.std.proofs.Common.{◌++◌, ◌∷◌, codes, decimal, refl, sym, ap, subst, ◌∙◌}
use Rattle.std.specs.List.{AllByRecursion}
use Rattle.reply_messages.specs.Fits.{FitsProperty}
use Rattle.reply_messages.specs.Found.{Finds}
use Rattle.reply_messages.specs.Tags.{properties_bytes}
use Rattle.reply_messages.proofs.TagSteps.{kind_word_of, behind_start, after_word, after_start, after_stop}
use Rattle.reply_messages.proofs.Tags.{properties_begin}
use Rattle.reply_messages.proofs.tag.tag_at.Goals as goal

pub returns-in_default-offset_after : goal.returns-in_default-offset_after
returns-in_default-offset_after c = λ t fits e.
    let word = after_word t c.args.tag.now c.cut.result.0.now c.cut.result.1.now c.cut.ensures.whole c.cut.ensures.before c.cut.ensures.behind e in
    c.in_default-offset_after.ensures t.range.start (behind_start t) fits.0.0 refl (sym word.1)

pub returns-in_default-offset_after-2 : goal.returns-in_default-offset_after-2
returns-in_default-offset_after-2 c = λ t fits e.
    let word = after_word t c.args.tag.now c.cut.result.0.now c.cut.result.1.now c.cut.ensures.whole c.cut.ensures.before c.cut.ensures.behind e in
    let start = c.in-Some-offset_after.ensures in
    let rest = after_start t fits c.in-Some-offset_after.start.number c.cut.result.1.now c.in-Some-offset_after.start.rest.now start.0 start.1 start.2 word.1 in
    c.in_default-offset_after-2.ensures t.range.stop (properties_bytes t.properties) fits.0.1 (properties_begin t.properties) (sym rest)

pub returns-in_default-2 : goal.returns-in_default-2
returns-in_default-2 c = λ t fits e.
    let word = after_word t c.args.tag.now c.cut.result.0.now c.cut.result.1.now c.cut.ensures.whole c.cut.ensures.before c.cut.ensures.behind e in
    let start = c.in-Some-offset_after.ensures in
    let stop = c.in-Some-offset_after-2.ensures in
    let rest = after_start t fits c.in-Some-offset_after.start.number c.cut.result.1.now c.in-Some-offset_after.start.rest.now start.0 start.1 start.2 word.1 in
    let left = after_stop t fits c.in-Some-offset_after-2.stop.number c.in-Some-offset_after.start.rest.now c.in-Some-offset_after-2.stop.rest.now stop.0 stop.1 stop.2 rest in
    subst (λ found. Finds properties_bytes (AllByRecursion FitsProperty) c.in-Some-offset_after-2.stop.rest.now found) c.in_default-2.is c.in_ok-properties.ensures t.properties fits.1 left

pub returns : goal.returns
returns c =
    let start = c.in-Some-offset_after.ensures in
    let stop = c.in-Some-offset_after-2.ensures in
    let found = subst (λ found. Finds properties_bytes (AllByRecursion FitsProperty) c.in-Some-offset_after-2.stop.rest.now found) c.in-Some-2.is c.in_ok-properties.ensures in (
      ((start.0, stop.0), found.0),
      ap (λ w. w ++ ((6 ∷ codes "offset=") ++ (decimal c.in-Some-offset_after.start.number ++ ((6 ∷ codes "end_offset=") ++ (decimal c.in-Some-offset_after-2.stop.number ++ properties_bytes c.in-Some-2.properties)))))
          (kind_word_of c.cut.result.0.now c.in-Some.kind (sym c.in-Some.ensures))
          ∙ ap (λ s. c.cut.result.0.now ++ s) (ap (λ ps. (6 ∷ codes "offset=") ++ (decimal c.in-Some-offset_after.start.number ++ ((6 ∷ codes "end_offset=") ++ (decimal c.in-Some-offset_after-2.stop.number ++ ps)))) found.1
          ∙ ap (λ s. (6 ∷ codes "offset=") ++ (decimal c.in-Some-offset_after.start.number ++ s)) (sym stop.2) ∙ sym start.2)
          ∙ sym c.cut.ensures.whole,
    )
