use Rattle.std.proofs.Common.{◌≡◌, ◌-◌, List, [], ◌∷◌, length, map, take, drop, sym, ap, subst, ◌∙◌, arith}
use Rattle.std.proofs.lemmas.List.{take_rest, nil_from_length}
use Rattle.text_words.proofs.KnownLists.{first_and_rest}
use Rattle.text_edits.specs.declared.edit.Edit.{Edit}
use Rattle.editor_buffer.specs.Held.{text_of}
use Rattle.buffer_rules.specs.Texts.{edit_all}
use Rattle.buffer_rules.specs.Sheets.{converted}
use Rattle.editor_buffer.proofs.SheetLemmas.{next_edit}
use Rattle.editor_buffer.proofs.MovedRanges.{converted_then, converted_none}
use Rattle.editor_buffer.proofs.editing.edited.Goals as goal

pub each-preserved : goal.each-preserved
each-preserved c =
    let rest = c.each.rest.now in
    let edit : Edit = c.edit-item.result in
    let more = drop 1 rest in
    let text = text_of c.each.made.text in
    let after = text_of c.in_ok-made.made.text in
    let split : rest ≡ edit ∷ more = first_and_rest rest edit c.in-len1-up.len_at_least c.edit-item.is in
    let slice : take (length rest - 1) more ≡ more = take_rest rest 1 in
    record {
      text = subst (λ (es : List Edit). edit_all es after ≡ edit_all c.args.edits.now (text_of c.args.old.text)) (sym slice)
          (next_edit edit more text after (edit_all c.args.edits.now (text_of c.args.old.text))
          (ap (λ (es : List Edit). edit_all es text) (sym split) ∙ c.each.invariant.text) c.in_ok-made.ensures.text);
      are_cuts = c.in_ok-made.ensures.cut;
      ranges = ap (λ (es : List Edit). map (converted es) c.in_ok-made.made.ranges.items) slice
          ∙ ap (map (converted more)) c.in_ok-made.ensures.ranges
          ∙ converted_then edit more c.each.made.ranges.items
          ∙ ap (λ (es : List Edit). map (converted es) c.each.made.ranges.items) (sym split)
          ∙ c.each.invariant.ranges;
      within = c.in_ok-made.ensures.within;
    }

pub returns-clause-ranges : goal.returns-clause-ranges
returns-clause-ranges c =
    let items = c.each.made.ranges.items in
    let none : c.each.rest.now ≡ [] = nil_from_length c.each.rest.now (omega (arith, c.in_default.len_below)) in
    sym (converted_none items)
    ∙ ap (λ (es : List Edit). map (converted es) items) (sym none)
    ∙ c.each.invariant.ranges
