-- A settle is added.
use Rattle.std.proofs.Common.{◌∙◌}
use Rattle.std.proofs.lemmas.Result.{on_ok_weaker}
use Rattle.made_document.proofs.Asked.{settle_added}
use Rattle.made_document.proofs.bytes.add_settle.Goals as goal

pub returns : goal.returns
returns c = on_ok_weaker c.append_message.result (settle_added c.a_message_is_asked_where_it_is_spelled.ensures c.args.out.now.items _
    c.args.version c.requires.id c.as_slice.result.now (c.as_slice.ensures.value ∙ c.in_ok-chunks.ensures)) c.append_message.ensures
