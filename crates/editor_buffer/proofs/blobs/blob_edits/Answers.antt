use Rattle.std.proofs.Common.{◌≡◌, ◌-◌, ◌∷◌, List, [], length, take, drop, sym, ap, ◌∙◌}
use Rattle.std.proofs.lemmas.List.{take_rest}
use Rattle.text_words.proofs.KnownLists.{first_and_rest}
use Rattle.message_values.specs.declared.item.BlobChange.{BlobChange}
use Rattle.buffer_rules.specs.Updates.{blobs_after}
use Rattle.editor_buffer.proofs.NameSets.{next_change}
use Rattle.editor_buffer.proofs.blobs.blob_edits.Goals as goal

pub each-preserved : goal.each-preserved
each-preserved c =
    let rest = c.each.rest.now in
    let change : BlobChange = c.change-item.result in
    let more = drop 1 rest in
    let before = c.args.before.now in
    let names = c.each.invariant.rest.0 in
    let are = c.each.invariant.rest.1 in
    let split : rest ≡ change ∷ more = first_and_rest rest change c.in-len1-up.len_at_least c.change-item.is in
    let slice : take (length rest - 1) more ≡ more = take_rest rest 1 in
    record {
      rest = (
        change.name ∷ names,
        c.in_ok-edits.ensures.came names are,
        ap (λ (cs : List BlobChange). blobs_after before (change.name ∷ names) cs c.in_ok-edits.edits.blobs) slice
            ∙ next_change before names change more c.each.edits.blobs c.in_ok-edits.edits.blobs (blobs_after before [] c.args.changes.now before)
            (ap (λ (cs : List BlobChange). blobs_after before names cs c.each.edits.blobs) (sym split) ∙ c.each.invariant.rest.2)
            (c.in_ok-edits.ensures.blobs names are),
      );
      changed = c.in_ok-edits.ensures.changed c.each.invariant.changed;
    }
