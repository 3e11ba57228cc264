use Rattle.std.proofs.Common.{◌≡◌, ◌-◌, ◌↔◌, IsTrue, List, ◌∷◌, length, take, drop, sym, ap, subst, ◌∙◌}
use Rattle.std.proofs.lemmas.List.{take_rest}
use Rattle.text_words.proofs.KnownLists.{first_and_rest}
use Rattle.message_values.specs.declared.item.Item.{Item}
use Rattle.buffer_rules.specs.Trying.{steps}
use Rattle.buffer_rules.specs.Sheets.{item_once}
use Rattle.editor_buffer.specs.Standing.{sheets_of}
use Rattle.editor_buffer.specs.Heads.{KeepHeaders}
use Rattle.editor_buffer.proofs.DraftLemmas.{next_item}
use Rattle.editor_buffer.proofs.KeptHeaders.{keep_next, stand_next}
use Rattle.editor_buffer.proofs.draft.Draft.with_items.Goals as goal

pub each-preserved : goal.each-preserved
each-preserved c =
    let rest = c.each.rest.now in
    let item : Item = c.item-item.result in
    let more = drop 1 rest in
    let draft = c.each.draft in
    let after = c.in_ok-draft.draft in
    let now = sheets_of draft.opened in
    let split : rest ≡ item ∷ more = first_and_rest rest item c.in-len1-up.len_at_least c.item-item.is in
    let slice : take (length rest - 1) more ≡ more = take_rest rest 1 in
    let told = c.in_ok-draft.ensures in
    let Whole : Type 0 = IsTrue c.args.self.headers_stand × KeepHeaders c.args.items.now (sheets_of c.args.self.opened) in
    let Was : List Item → Type 0 = λ es. (IsTrue draft.headers_stand × KeepHeaders es now) ↔ Whole in
    let Is : List Item → Type 0 = λ es. (IsTrue after.headers_stand × KeepHeaders es (sheets_of after.opened)) ↔ Whole in
    record {
      opened = ap (λ (es : List Item). steps item_once es (sheets_of after.opened)) slice
          ∙ next_item item more now (sheets_of after.opened) (steps item_once c.args.items.now (sheets_of c.args.self.opened))
          (ap (λ (es : List Item). steps item_once es now) (sym split) ∙ c.each.invariant.opened) told.opened;
      drafted = λ tip all. told.drafted tip (c.each.invariant.drafted tip all);
      headers = λ tip all.
          let before = c.each.invariant.drafted tip all in
          let was : Was (item ∷ more) = subst Was split (c.each.invariant.headers tip all) in
          let next = keep_next tip draft.headers_stand after.headers_stand item more draft.opened after.opened draft.nodes after.nodes
          before (told.drafted tip before) told.opened (told.headers tip before) in
          let is : Is more = (λ kept. was.0 (next.0 kept), λ kept. next.1 (was.1 kept)) in
          subst Is (sym slice) is;
      stand = λ tip all.
          stand_next draft.headers_stand after.headers_stand draft.nodes after.nodes c.args.self.nodes
          (told.headers tip (c.each.invariant.drafted tip all)) (c.each.invariant.stand tip all);
    }
