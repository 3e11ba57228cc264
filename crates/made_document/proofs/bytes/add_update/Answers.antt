-- An update is added.
use Rattle.std.proofs.Common.{◌≡◌, codes, decimal, ◌∷◌, [], rules}
use Rattle.std.proofs.lemmas.Result.{on_ok_weaker}
use Rattle.made_document.proofs.Asked.{update_added}
use Rattle.made_document.proofs.bytes.add_update.Goals as goal

pub returns : goal.returns
returns c =
    let chunks_are : c.as_slice.result.now ≡ codes "Session.update" ∷ decimal c.args.version ∷ c.in_ok-items_chunk.field-0 ∷ [] = search rules in
    on_ok_weaker c.append_message.result (λ now_is. update_added c.a_message_is_asked_where_it_is_spelled.ensures c.args.out.now.items _
    c.args.version c.requires.id c.as_slice.result.now c.in_ok-items_chunk.field-0 c.args.items c.in_ok-items_chunk.ensures.spells
    c.in_ok-items_chunk.ensures.utf8 c.in_ok-items_chunk.ensures.short chunks_are now_is) c.append_message.ensures
