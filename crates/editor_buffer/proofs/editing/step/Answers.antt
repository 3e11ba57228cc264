use Rattle.std.proofs.Common.{◌≡◌, ◌<◌, ◌^◌, length, List, map, Ok, sym, ap, subst, ◌∙◌, arith}
use Rattle.shared_map.specs.Pairs.{Each}
use Rattle.pide_base.specs.declared.range.Range.{Range}
use Rattle.editor_buffer.specs.Held.{text_of}
use Rattle.text_edits.specs.Edits.{Applies}
use Rattle.buffer_rules.specs.Texts.{edit_once}
use Rattle.editor_buffer.specs.Within.{AreWithin, IsSmall, moved}
use Rattle.editor_buffer.proofs.KnownEditSteps.{made}
use Rattle.editor_buffer.proofs.MovedRanges.{moved_within, moved_small}
use Rattle.editor_buffer.proofs.editing.step.Goals as goal

pub moved_all-requires : goal.moved_all-requires
moved_all-requires c =
    let edit = c.args.edit.now in
    let text = text_of c.args.old.text in
    let after = c.in_ok-made.made.text in
    let once : edit_once edit text ≡ Ok after = c.in_ok-made.ensures.text in
    let applied : Applies edit text after = made c.edits_law.ensures edit text after once in
    let small : length after < 2 ^ 64 = omega (arith, c.len-len.ensures, c.len-len.type_inv) in
    subst (λ (rs : List Range). Each (IsSmall edit) rs) (sym c.deref.ensures.value)
    (moved_small edit text after (λ i le. c.places_stay_within.ensures.converted edit text after i applied le) small c.args.old.ranges.items c.requires.within)

pub returns-clause-within : goal.returns-clause-within
returns-clause-within c =
    let edit = c.args.edit.now in
    let text = text_of c.args.old.text in
    let after = c.in_ok-made.made.text in
    let once : edit_once edit text ≡ Ok after = c.in_ok-made.ensures.text in
    let applied : Applies edit text after = made c.edits_law.ensures edit text after once in
    let there : AreWithin (length after) (map (moved edit) c.args.old.ranges.items) =
    moved_within edit text after (λ i le. c.places_stay_within.ensures.converted edit text after i applied le) c.args.old.ranges.items c.requires.within in
    let ranges : c.in_ok-ranges.ranges.items ≡ map (moved edit) c.args.old.ranges.items =
    c.in_ok-ranges.ensures ∙ ap (map (moved edit)) c.deref.ensures.value in
    subst (AreWithin (length after)) (sym ranges) there
